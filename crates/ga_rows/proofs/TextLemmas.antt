-- The lines of rows, put down one after the other, and the piece of text that they go through.
use Rattle.ga_rows.specs.Text.{line, lines, row_text}
use Rattle.ga_rows.specs.declared.arguments.Mode.{Mode}
use Rattle.ga_rows.specs.declared.buffer.TheConstants.{PIECE_SIZE}
use Rattle.ga_rows.specs.declared.output.TheConstants.{LONGEST_LINE}
use Rattle.std.proofs.Common.{[], ◌≡◌, ℕ, ◌+◌, ◌≤◌, List, ◌∷◌, ◌++◌, None, Option, Some, append_assoc, append-nil, ap, arith}
use Rattle.std.proofs.Common.{length, length-append, length-take, reverse, subst, sym, take, ◌∙◌}
use Rattle.std.proofs.KnownBytes.{Appends-nil, Appends-trans}
use Rattle.std.proofs.Math.Seq.{take-append-add}
use Rattle.std.proofs.lemmas.List.{reverse-append, take-append-le}
use Rattle.std.specs.Io.KnownBytes.{Appends, append_known}

module _ (mode : Mode) where
  -- known bytes grew by what is, with the lines of the rows that are left, the lines of all
  pub record LinesSoFar (all left : List (List ℕ)) (before now : Option (List ℕ)) : Type 0 where
    pub done : List ℕ
    pub appended : Appends before now done
    pub whole : lines mode all ≡ done ++ lines mode left

  -- before the first line
  pub lines-none : (all left : List (List ℕ)) (now : Option (List ℕ)) → left ≡ all → LinesSoFar all left now now
  lines-none all left now same = record { done = []; appended = Appends-nil now; whole = ap (lines mode) (sym same) }

  -- also after one more line
  pub lines-more : (all left after : List (List ℕ)) (row : List ℕ) (before now later : Option (List ℕ))
      → LinesSoFar all left before now → left ≡ row ∷ after → Appends now later (line (row_text mode row))
      → LinesSoFar all after before later
  lines-more all left after row before now later so_far step put =
      let first = line (row_text mode row) in
      record {
        done = so_far.done ++ first;
        appended = Appends-trans before now later so_far.done first so_far.appended put;
        whole = rw append_assoc (rw step at so_far.whole);
      }

  -- the same where the rows that are left are taken from the back
  pub lines-more_back : (all left after : List (List ℕ)) (row : List ℕ) (before now later : Option (List ℕ))
      → LinesSoFar all (reverse left) before now → left ≡ after ++ row ∷ []
      → Appends now later (line (row_text mode row)) → LinesSoFar all (reverse after) before later
  lines-more_back all left after row before now later so_far step put =
      lines-more all (reverse left) (reverse after) row before now later so_far
      (ap reverse step ∙ reverse-append after (row ∷ [])) put

  -- after the last line
  pub lines-all : (all left : List (List ℕ)) (before now : Option (List ℕ)) → LinesSoFar all left before now
      → left ≡ [] → Appends before now (lines mode all)
  lines-all all left before now so_far none = rw (so_far.whole, none, append-nil so_far.done) so_far.appended

-- rows that there are none of do not end in a row
pub no-last : {A : Type 0} (left after : List A) (row : A) → left ≡ [] → left ≡ after ++ row ∷ [] → ⊥
no-last left after row none step = omega (arith, ap length none, ap length step, length-append after (row ∷ []))

-- what was put behind an empty text is written once the text is
pub all-written : (before after last : Option (List ℕ)) (start piece text : List ℕ) → start ≡ []
    → Appends (append_known before start) (append_known after piece) text → Appends after last piece
    → Appends before last text
all-written None after last start piece text none put written = tt
all-written (Some bytes) None last start piece text none put written = absurd put
all-written (Some bytes) (Some more) None start piece text none put written = absurd written
all-written (Some bytes) (Some more) (Some all) start piece text none put written =
    written ∙ (put ∙ ap (λ front. front ++ text) (ap (λ start. bytes ++ start) none ∙ append-nil bytes))

-- an empty piece has room for a line
pub none-has_room : (piece : List ℕ) → piece ≡ [] → length piece + LONGEST_LINE ≤ PIECE_SIZE
none-has_room piece none = subst (λ text. length text + LONGEST_LINE ≤ PIECE_SIZE) (sym none) (omega arith)

-- a text up to a place within what was put there
pub take-put : (start count : ℕ) (text put behind : List ℕ) → start ≤ length text → count ≤ length put
    → take (start + count) (take start text ++ (put ++ behind)) ≡ take start text ++ take count put
take-put start count text put behind within few =
    let front = take start text in
    let long : start ≡ length front = omega (arith, length-take start text) in
    ap (λ n. take (n + count) (front ++ (put ++ behind))) long
    ∙ (take-append-add front (put ++ behind) count ∙ ap (λ all. front ++ all) (take-append-le count put behind few))
