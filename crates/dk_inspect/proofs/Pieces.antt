-- Pieces that are written in turn, one for each number from 0 on.
use Rattle.dk_inspect.proofs.Names.{◌≡◌, ◌<◌, ◌≤◌, ◌+◌, ◌-◌, ◌∙◌, ℕ, zero, suc, List, [], ◌∷◌, ◌++◌, length, refl, ap, sym, subst, arith, append_assoc, false, flat_map, slice_get, Option, Some, None, Result, Ok, Err, IsErr, option_map_or, append-nil, numbers, below, SinkView, Appends, Writes, first_fails, second_ends}
use Rattle.std.specs.Prelude.{true}

more-from : (f : ℕ → List ℕ) (low n : ℕ) → flat_map f (numbers low (suc n)) ≡ flat_map f (numbers low n) ++ f (low + n)
more-from f low zero = append-nil (f low) ∙ ap f (omega arith)
more-from f low (suc n) =
    let next : suc low + n ≡ low + suc n = omega arith in
    let rest = flat_map f (numbers (suc low) n) in
    ap (λ t. f low ++ t) (more-from f (suc low) n ∙ ap (λ k. rest ++ f k) next) ∙ sym (append_assoc (f low) rest (f (low + suc n)))

-- one piece more
pub one_more : (f : ℕ → List ℕ) (i : ℕ) → flat_map f (below (i + 1)) ≡ flat_map f (below i) ++ f i
one_more f i =
    let up : i + 1 ≡ suc i = omega arith in
    let same : 0 + i ≡ i = omega arith in
    ap (λ k. flat_map f (below k)) up ∙ more-from f 0 i ∙ ap (λ k. flat_map f (below i) ++ f k) same

rest-from : (f : ℕ → List ℕ) (low m n k : ℕ) → m + n ≡ k → flat_map f (numbers low k) ≡ flat_map f (numbers low m) ++ flat_map f (numbers (low + m) n)
rest-from f low zero n k all =
    let same : k ≡ n = omega arith in
    let start : low ≡ low + 0 = omega arith in
    ap (λ i. flat_map f (numbers low i)) same ∙ ap (λ i. flat_map f (numbers i n)) start
rest-from f low (suc m) n zero all = absurd (omega arith)
rest-from f low (suc m) n (suc k) all =
    let less : m + n ≡ k = omega arith in
    let next : suc low + m ≡ low + suc m = omega arith in
    ap (λ t. f low ++ t) (rest-from f (suc low) m n k less ∙ ap (λ i. flat_map f (numbers (suc low) m) ++ flat_map f (numbers i n)) next)
    ∙ sym (append_assoc (f low) (flat_map f (numbers (suc low) m)) (flat_map f (numbers (low + suc m) n)))

pub nothing : (a : Option (List ℕ)) → Appends a a []
nothing None = refl
nothing (Some w) = ap (λ (t : List ℕ). Some t) (sym (append-nil w))

-- how a write ended that was done
abbrev pub done : Result (Unit {0}) (Unit {0})
done = Ok tt

-- One piece for each number, written in turn.
module _ (f : ℕ → List ℕ) where
  pub none_written : (s : SinkView) → Writes s s done (flat_map f (below 0))
  none_written s =
      record { ok = nothing s.written; err = tt; cause = λ fails. absurd (let no : false ≡ true = fails in cc); stays = refl; faults = omega arith; same = refl }

  -- i pieces were written, and then the next one
  pub next_written : {A E : Type 0} (old between new : SinkView) (i : ℕ) (x : A) (text : List ℕ) → text ≡ f i
      → Writes old between done (flat_map f (below i)) → Writes {E = E} between new (Ok x) text
      → Writes old new done (flat_map f (below (i + 1)))
  next_written old between new i x text is v w =
      let next : Writes between new done (f i) =
      record {
        ok = subst (λ t. Appends between.written new.written t) is w.ok;
        err = tt;
        cause = λ fails. absurd (let no : false ≡ true = fails in cc);
        stays = w.stays;
        faults = w.faults;
        same = w.same;
      } in
      second_ends (flat_map f (below i)) (f i) (flat_map f (below (i + 1))) (one_more f i) old between new tt done v next

  -- i of n pieces were written, and the next one failed
  pub next_failed : {A B E F : Type 0} (old between new : SinkView) (i n : ℕ) (e : E) (r : Result B F) (text : List ℕ) → text ≡ f i → i < n → IsErr r
      → Writes old between done (flat_map f (below i)) → Writes {A = A} between new (Err e) text
      → Writes old new r (flat_map f (below n))
  next_failed {A = A} {E = E} old between new i n e r text is within fails v w =
      let all : (i + 1) + (n - (i + 1)) ≡ n = omega arith in
      let failed : Result A E = Err e in
      let parts = one_more f i ∙ ap (λ t. flat_map f (below i) ++ t) (sym is) in
      let so_far = second_ends (flat_map f (below i)) text (flat_map f (below (i + 1))) parts old between new tt failed v w in
      let rest = flat_map f (numbers (0 + (i + 1)) (n - (i + 1))) in
      first_fails (flat_map f (below (i + 1))) rest (flat_map f (below n)) (rest-from f 0 (i + 1) (n - (i + 1)) n all) old new e r fails so_far

-- what was written, told of another result that is no error
pub written_as : {A E : Type 0} (old new : SinkView) (x : A) (text whole : List ℕ) → text ≡ whole
    → Writes old new done text → Writes {E = E} old new (Ok x) whole
written_as old new x text whole is w =
    record {
      ok = subst (λ t. Appends old.written new.written t) is w.ok;
      err = tt;
      cause = λ fails. absurd (let no : false ≡ true = fails in cc);
      stays = w.stays;
      faults = w.faults;
      same = w.same;
    }

-- the pieces of a list's items, by their places
pub by_place : {X : Type 0} (g : X → List ℕ) (h : ℕ → List ℕ) (xs : List X) (low n : ℕ) → ((i : ℕ) → h (low + i) ≡ option_map_or g (slice_get xs i) [])
    → length xs ≤ n → flat_map h (numbers low n) ≡ flat_map g xs
by_place g h [] low zero each few = refl
by_place g h (x ∷ xs) low zero each few = absurd (omega arith)
by_place g h [] low (suc n) each few =
    let here : low + 0 ≡ low = omega arith in
    let none : h low ≡ [] = ap h (sym here) ∙ each 0 in
    ap (λ t. t ++ flat_map h (numbers (suc low) n)) none
    ∙ by_place g h [] (suc low) n (λ i. let next : suc low + i ≡ low + suc i = omega arith in ap h next ∙ each (suc i)) (omega arith)
by_place g h (x ∷ xs) low (suc n) each few =
    let here : low + 0 ≡ low = omega arith in
    let first : h low ≡ g x = ap h (sym here) ∙ each 0 in
    ap (λ t. t ++ flat_map h (numbers (suc low) n)) first
    ∙ ap (λ t. g x ++ t) (by_place g h xs (suc low) n (λ i. let next : suc low + i ≡ low + suc i = omega arith in ap h next ∙ each (suc i)) (omega arith))
