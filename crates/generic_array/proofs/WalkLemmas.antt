-- Walks over what a sequence gives, and the calls along them.
use Rattle.ga_core.proofs.CallLemmas.{may_map-at, may_try_map-at, may_zip-at}
use Rattle.ga_core.specs.Calls.{MayMap, MayTryMap, MayZip}
use Rattle.ga_core.specs.Entries.{CallAt, CallAtPair, MayCallAt}
use Rattle.ga_core.specs.Runs.{ClosureRun, TryClosureRan, TryClosureRun}
use Rattle.generic_array.specs.GivenEntries.{CallAtNext, CallAtNextPair, MayCallAtNext, MayCallAtNextPair}
use Rattle.std.proofs.Common.{◌≡◌, ◌<◌, List, [], ◌∷◌, ◌++◌, length, arith, inl, inr, map, Result, Ok, Err, Option}
use Rattle.std.proofs.Common.{refl, ap, sym, ◌∙◌, subst}
use Rattle.std.specs.Iterator.{AlwaysYields}
use Rattle.std.proofs.lemmas.List.{map-id}
use Rattle.std.specs.List.{zip}

-- A closure that takes the next item at each call and answers what f answers at it: c is its state, `it c` the
-- iterator's and `fn c` that of f.
module _ {S I T C F K Y : Type 0} (steps : S → Option I → S → Type 0) (can : S → Type 0) (entry : I → T)
    (pre : F → I → Type 0) (step : F → I → Y → F → Type 0) (it : C → S) (fn : C → F) (calls : C → K → Y → C → Type 0)
    (reads : (c : C) (k : K) (y : Y) (d : C) → calls c k y d
    → CallAtNext can steps step (it c) (fn c) y (it d) (fn d)) where
  -- where entries are left behind calls that gave answers of a kind, the next call may be made if f may be called at
  -- each entry behind calls that gave such answers
  walk-callable : {Z : Type 0} (kind : Z → Y) (values : List T) (c : C) (ks : List K) (zs : List Z) (d : C)
      → AlwaysYields steps entry (it c) values → can (it c) → ClosureRun calls c ks (map kind zs) d
      → length ks < length values → ((passed : List T) (x : T) (others : List T) (given : List Z) (reached : F)
      → values ≡ passed ++ x ∷ others → ClosureRun (CallAt entry step) (fn c) passed (map kind given) reached
      → MayCallAt entry pre reached x) → MayCallAtNext can steps pre (it d) (fn d)
  walk-callable kind [] c ks zs d gives may run more along = absurd (omega (arith, more))
  walk-callable kind (x ∷ values) c [] [] d gives may run more along =
      subst (λ e. MayCallAtNext can steps pre (it e) (fn e)) run
      (may, gives.0, λ item t next. along [] x values [] (fn c) refl refl item (gives.1 item t next).0)
  walk-callable kind (x ∷ values) c (k ∷ ks) (z ∷ zs) d gives may run more along =
      let read = reads c k (kind z) run.0 run.1 in
      let here = gives.1 read.0.0 (it run.0) read.0.1 in
      walk-callable kind values run.0 ks zs d here.1 read.1 run.2 (omega (arith, more))
      (λ passed v others given reached whole ran. along (x ∷ passed) v others (z ∷ given) reached
      (ap (λ l. x ∷ l) whole) (fn run.0, (read.0.0, here.0, read.0.2), ran))
  walk-callable kind _ c _ _ d gives may run more along = absurd run

  pub map-callable : (values : List T) (c : C) (ks : List K) (ys : List Y) (d : C)
      → AlwaysYields steps entry (it c) values → can (it c) → ClosureRun calls c ks ys d
      → length ks < length values → MayMap entry pre step (fn c) values → MayCallAtNext can steps pre (it d) (fn d)
  map-callable values c ks ys d gives may run more callable =
      walk-callable (λ y. y) values c ks ys d gives may (subst (λ zs. ClosureRun calls c ks zs d) (sym (map-id ys)) run)
      more (λ passed x others zs reached whole ran. may_map-at entry pre step (fn c) values callable passed x others zs
      reached whole (subst (λ l. ClosureRun (CallAt entry step) (fn c) passed l reached) (map-id zs) ran))

  -- after as many calls as there are entries, all are passed
  pub walk-whole : (values : List T) (c : C) (ks : List K) (ys : List Y) (d : C)
      → AlwaysYields steps entry (it c) values → ClosureRun calls c ks ys d
      → length ks ≡ length values → ClosureRun (CallAt entry step) (fn c) values ys (fn d)
  walk-whole [] c [] [] d gives run all = ap fn run
  walk-whole (x ∷ values) c (k ∷ ks) (y ∷ ys) d gives run all =
      let read = reads c k y run.0 run.1 in
      let here = gives.1 read.0.0 (it run.0) read.0.1 in
      (fn run.0, (read.0.0, here.0, read.0.2), walk-whole values run.0 ks ys d here.1 run.2 (omega (arith, all)))
  walk-whole [] c (k ∷ ks) _ d gives run all = absurd (omega (arith, all))
  walk-whole (x ∷ values) c [] _ d gives run all = absurd (omega (arith, all))
  walk-whole _ c _ _ d gives run all = absurd run

-- the same where the answers may be errors
module _ {S I T C F K Y E : Type 0} (steps : S → Option I → S → Type 0) (can : S → Type 0) (entry : I → T)
    (pre : F → I → Type 0) (step : F → I → Result Y E → F → Type 0) (it : C → S) (fn : C → F)
    (calls : C → K → Result Y E → C → Type 0) (reads : (c : C) (k : K) (y : Result Y E) (d : C) → calls c k y d
    → CallAtNext can steps step (it c) (fn c) y (it d) (fn d)) where
  pub try_map-callable : (values : List T) (c : C) (ks : List K) (good : List Y) (d : C)
      → AlwaysYields steps entry (it c) values → can (it c) → ClosureRun calls c ks (map Ok good) d
      → length ks < length values → MayTryMap entry pre step (fn c) values → MayCallAtNext can steps pre (it d) (fn d)
  try_map-callable values c ks good d gives may run more callable = walk-callable steps can entry pre step it fn calls
      reads Ok values c ks good d gives may run more (may_try_map-at entry pre step (fn c) values callable)

  -- the run that came to the answer is the run over all entries
  walk-answer : (answer : Result (List Y) E) (values : List T) (c : C) (ks : List K) (d : C)
      → AlwaysYields steps entry (it c) values → TryClosureRun calls c ks answer d → length ks ≡ length values
      → TryClosureRun (CallAt entry step) (fn c) values answer (fn d)
  walk-answer (Ok []) [] c [] d gives run all = ap fn run
  walk-answer (Ok (y ∷ ys)) (x ∷ values) c (k ∷ ks) d gives run all =
      let read = reads c k (Ok y) run.0 run.1 in
      let here = gives.1 read.0.0 (it run.0) read.0.1 in
      (fn run.0, (read.0.0, here.0, read.0.2), walk-answer (Ok ys) values run.0 ks d here.1 run.2 (omega (arith, all)))
  walk-answer (Err error) (x ∷ values) c (k ∷ ks) d gives (inl call) all =
      let read = reads c k (Err error) d call in
      inl (read.0.0, (gives.1 read.0.0 (it d) read.0.1).0, read.0.2)
  walk-answer (Err error) (x ∷ values) c (k ∷ ks) d gives (inr more) all =
      let read = reads c k (Ok more.0) more.1 more.2 in
      let here = gives.1 read.0.0 (it more.1) read.0.1 in
      let then = walk-answer (Err error) values more.1 ks d here.1 more.3 (omega (arith, all)) in
      inr (more.0, fn more.1, (read.0.0, here.0, read.0.2), then)
  walk-answer _ [] c (k ∷ ks) d gives run all = absurd (omega (arith, all))
  walk-answer _ (x ∷ values) c [] d gives run all = absurd (omega (arith, all))
  walk-answer _ _ c _ d gives run all = absurd run

-- The same of two iterators, asked one after the other: `it c` and `jt c` are their states.
module _ {S R I J T B C F K Y : Type 0} (steps : S → Option I → S → Type 0) (can : S → Type 0)
    (others : R → Option J → R → Type 0) (other_can : R → Type 0) (entry : I → T) (other : J → B)
    (pre : F → I → J → Type 0) (step : F → I → J → Y → F → Type 0) (it : C → S) (jt : C → R) (fn : C → F)
    (calls : C → K → Y → C → Type 0) (reads : (c : C) (k : K) (y : Y) (d : C) → calls c k y d
    → CallAtNextPair can steps other_can others step (it c) (jt c) (fn c) y (it d) (jt d) (fn d)) where
  -- the two give values
  abbrev pub BothYield : C → List T → List B → Type 0
  BothYield c xs bs = AlwaysYields steps entry (it c) xs × AlwaysYields others other (jt c) bs × (length bs ≡ length xs)

  pairs-callable : (xs : List T) (bs : List B) (c : C) (ks : List K) (ys : List Y) (d : C) → BothYield c xs bs
      → can (it c) → other_can (jt c) → ClosureRun calls c ks ys d → length ks < length xs
      → ((passed : List (T × B)) (p : T × B) (rest : List (T × B)) (given : List Y) (reached : F)
      → zip xs bs ≡ passed ++ p ∷ rest → ClosureRun (CallAtPair entry other step) (fn c) passed given reached
      → (item : I) (beside : J) → entry item ≡ p.0 → other beside ≡ p.1 → pre reached item beside)
      → MayCallAtNextPair can steps other_can others pre (it d) (jt d) (fn d)
  pairs-callable [] bs c ks ys d gives may also run below along = absurd (omega (arith, below))
  pairs-callable (x ∷ xs) [] c ks ys d gives may also run below along = absurd (omega (arith, gives.2))
  pairs-callable (x ∷ xs) (b ∷ bs) c [] [] d gives may also run below along =
      let l = gives.0 in
      let r = gives.1 in
      let here = along [] (x, b) (zip xs bs) [] (fn c) refl refl in
      subst (λ e. MayCallAtNextPair can steps other_can others pre (it e) (jt e) (fn e)) run
      (may, also, l.0, r.0, λ item t beside u next then. here item beside (l.1 item t next).0 (r.1 beside u then).0)
  pairs-callable (x ∷ xs) (b ∷ bs) c (k ∷ ks) (y ∷ ys) d gives may also run below along =
      let read = reads c k y run.0 run.1 in
      let here = gives.0.1 read.0.0 (it run.0) read.0.2 in
      let there = gives.1.1 read.0.1 (jt run.0) read.0.3 in
      pairs-callable xs bs run.0 ks ys d (here.1, there.1, omega (arith, gives.2)) read.1 read.2 run.2
      (omega (arith, below)) (λ passed p rest given reached whole ran. along ((x, b) ∷ passed) p rest (y ∷ given) reached
      (ap (λ l. (x, b) ∷ l) whole) (fn run.0, (read.0.0, read.0.1, here.0, there.0, read.0.4), ran))
  pairs-callable _ _ c _ _ d gives may also run below along = absurd run

  pub zip-callable : (xs : List T) (bs : List B) (c : C) (ks : List K) (ys : List Y) (d : C) → BothYield c xs bs
      → can (it c) → other_can (jt c) → ClosureRun calls c ks ys d → length ks < length xs
      → MayZip entry other pre step (fn c) xs bs → MayCallAtNextPair can steps other_can others pre (it d) (jt d) (fn d)
  zip-callable xs bs c ks ys d gives may also run below callable = pairs-callable xs bs c ks ys d gives may also run below
      (may_zip-at entry other pre step (fn c) xs bs callable)

  pub zip-whole : (xs : List T) (bs : List B) (c : C) (ks : List K) (ys : List Y) (d : C) → BothYield c xs bs
      → ClosureRun calls c ks ys d → length ks ≡ length xs
      → ClosureRun (CallAtPair entry other step) (fn c) (zip xs bs) ys (fn d)
  zip-whole [] [] c [] [] d gives run all = ap fn run
  zip-whole (x ∷ xs) (b ∷ bs) c (k ∷ ks) (y ∷ ys) d gives run all =
      let read = reads c k y run.0 run.1 in
      let here = gives.0.1 read.0.0 (it run.0) read.0.2 in
      let there = gives.1.1 read.0.1 (jt run.0) read.0.3 in
      let then = zip-whole xs bs run.0 ks ys d (here.1, there.1, omega (arith, gives.2)) run.2 (omega (arith, all)) in
      (fn run.0, (read.0.0, read.0.1, here.0, there.0, read.0.4), then)
  zip-whole [] [] c [] (y ∷ ys) d gives run all = absurd run
  zip-whole (x ∷ xs) (b ∷ bs) c (k ∷ ks) [] d gives run all = absurd run
  zip-whole _ _ c _ _ d gives run all = absurd (omega (arith, all, gives.2))

module _ {C K Y A : Type 0} (calls : C → K → Y → C → Type 0) (part : C → A)
    (keeps : (c : C) (k : K) (y : Y) (d : C) → calls c k y d → part d ≡ part c) where
  -- what each call keeps, a run keeps
  pub ClosureRun-keeps : (c : C) (ks : List K) (ys : List Y) (d : C) → ClosureRun calls c ks ys d → part d ≡ part c
  ClosureRun-keeps c [] [] d run = ap part (sym run)
  ClosureRun-keeps c (k ∷ ks) (y ∷ ys) d run = ClosureRun-keeps run.0 ks ys d run.2 ∙ keeps c k y run.0 run.1
  ClosureRun-keeps c _ _ d run = absurd run

module _ {C K Y E A : Type 0} (calls : C → K → Result Y E → C → Type 0) (part : C → A)
    (keeps : (c : C) (k : K) (y : Result Y E) (d : C) → calls c k y d → part d ≡ part c) where
  -- so does a run up to an answer
  TryClosureRun-keeps : (answer : Result (List Y) E) (c : C) (ks : List K) (d : C)
      → TryClosureRun calls c ks answer d → part d ≡ part c
  TryClosureRun-keeps (Ok []) c [] d run = ap part (sym run)
  TryClosureRun-keeps (Ok (y ∷ good)) c (k ∷ ks) d run =
      TryClosureRun-keeps (Ok good) run.0 ks d run.2 ∙ keeps c k (Ok y) run.0 run.1
  TryClosureRun-keeps (Err error) c (k ∷ ks) d (inl call) = keeps c k (Err error) d call
  TryClosureRun-keeps (Err error) c (k ∷ ks) d (inr more) =
      TryClosureRun-keeps (Err error) more.1 ks d more.3 ∙ keeps c k (Ok more.0) more.1 more.2
  TryClosureRun-keeps _ c _ d run = absurd run

-- the same of a run that is told as a record, from which the calls are found
module _ {C K Y E : Type 0} {calls : C → K → Result Y E → C → Type 0} {c : C} {ks : List K} {answer : Result (List Y) E}
    {d : C} (ran : TryClosureRan calls c ks answer d) where
  pub TryClosureRan-keeps : {A : Type 0} (part : C → A)
      → ((f : C) (k : K) (y : Result Y E) (g : C) → calls f k y g → part g ≡ part f) → part d ≡ part c
  TryClosureRan-keeps part keeps = TryClosureRun-keeps calls part keeps answer c ks d ran.run

  pub walk-ran : {S I T F : Type 0} (steps : S → Option I → S → Type 0) (can : S → Type 0) (entry : I → T)
      (pre : F → I → Type 0) (step : F → I → Result Y E → F → Type 0) (it : C → S) (fn : C → F)
      → ((f : C) (k : K) (y : Result Y E) (g : C) → calls f k y g
      → CallAtNext can steps step (it f) (fn f) y (it g) (fn g))
      → (values : List T) → AlwaysYields steps entry (it c) values → length ks ≡ length values
      → TryClosureRun (CallAt entry step) (fn c) values answer (fn d)
  walk-ran steps can entry pre step it fn reads values gives =
      walk-answer steps can entry pre step it fn calls reads answer values c ks d gives ran.run
