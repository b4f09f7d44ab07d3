use Rattle.ga_core.proofs.LeftLemmas.{blanks-last, left-before, left-whole}
use Rattle.ga_core.proofs.array_iter.GenericArrayIter.pass_back.Goals as goal
use Rattle.ga_views.specs.Parts.{part_set}
use Rattle.std.proofs.Common.{◌%◌, ◌-◌}

pub returns-then-passed-gt0 : goal.returns-then-passed-gt0
returns-then-passed-gt0 g c =
    let items = g.N.ArrayType.Store.items c.self.inside.store in
    let part = part_set ((c.self.inside.back - c.args.passed) % 65536) c.args.passed items c.write_defaults_back.new.slots in
    left-before items _ c.self.invariant c.self.view_is c.args.passed c.requires.in_bounds c.if-passed-gt0.true
    _ c.write_defaults_back.new.slots (g.N.ArrayType.Store.store_with c.self.inside.store part).1

pub part_mut-requires : goal.part_mut-requires
part_mut-requires g c = record {
  in_bounds = blanks-last _ _ c.self.invariant c.self.view_is _ c.requires.in_bounds c.if-passed-gt0.true;
}

pub returns-else-passed-gt0 : goal.returns-else-passed-gt0
returns-else-passed-gt0 g c = left-whole c.args.self.now c.args.passed c.if-passed-gt0.false
