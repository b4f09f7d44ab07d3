use Rattle.ga_views.proofs.GetLemmas.{got_none, got_some}
use Rattle.ga_views.proofs.view_mut.ViewMut.get_mut.Goals as goal
use Rattle.std.specs.Prelude.{refl}

-- below the length the item is there
pub returns-then-index-USIZE : goal.returns-then-index-USIZE
returns-then-index-USIZE g c =
    let there = got_some _ _ _ _ c.args.self.now.full c.USIZE.ensures c.item_mut.result.now c.if-index-USIZE.true
    c.item_mut.ensures.item in
    (refl, record { writes_back = tt; variant = there.0; item = there.1 })

-- from the length on, none is
pub returns-else-index-USIZE : goal.returns-else-index-USIZE
returns-else-index-USIZE g c =
    let none = got_none _ _ _ _ c.args.self.now.full c.USIZE.ensures c.if-index-USIZE.false in
    (refl, record { writes_back = tt; variant = none.0; item = none.1 })
