-- The last tick of a thread's budget, looked for from the end of a window.
use Rattle.std.proofs.Common.{ℕ, zero, suc, ◌≡◌, ◌∙◌, ◌+◌, ◌<◌, ◌++◌, [], ◌∷◌, List, length, take, drop, reverse, sym, ap, refl, arith, append-nil}
use Rattle.std.specs.Prelude.{Bool, true, false, slice_get, Option, Some, None, option_to_list, if◌then◌else◌}
use Rattle.std.specs.Option.{option_map_or}
use Rattle.std.proofs.lemmas.List.{length-reverse, length-take-le, reverse-append}
use Rattle.dk_trace.specs.declared.ThreadId.{ThreadId}
use Rattle.dk_trace.specs.declared.Entry.{Entry}
use Rattle.dk_trace.specs.Entries.{is_budget_of}
use Rattle.dk_window_report.specs.Windows.{done_in}

module _ {X : Type 0} where
  take-next : (xs : List X) (n : ℕ) → take (suc n) xs ≡ take n xs ++ option_to_list (slice_get xs n)
  take-next [] zero = refl
  take-next [] (suc n) = refl
  take-next (x ∷ xs) zero = refl
  take-next (x ∷ xs) (suc n) = ap (λ t. x ∷ t) (take-next xs n)

  get-behind : (xs : List X) (s n : ℕ) → slice_get xs (s + n) ≡ slice_get (drop s xs) n
  get-behind [] zero n = refl
  get-behind [] (suc s) n = refl
  get-behind (x ∷ xs) zero n = ap (slice_get (x ∷ xs)) (omega arith)
  get-behind (x ∷ xs) (suc s) n = let at : suc s + n ≡ suc (s + n) = omega arith in ap (slice_get (x ∷ xs)) at ∙ get-behind xs s n

  pub got-within : (xs : List X) (n : ℕ) (x : X) → slice_get xs n ≡ Some x → n < length xs
  got-within [] n x is = absurd cc
  got-within (y ∷ xs) zero x is = omega arith
  got-within (y ∷ xs) (suc n) x is = let rest = got-within xs n x is in omega (arith, rest)

abbrev pub paid : ThreadId → Option Entry → Bool
paid x o = option_map_or (is_budget_of x) o false

module _ (x : ThreadId) (es : List Entry) where
  last-of : (w : List Entry) (o : Option Entry) → paid x o ≡ false → done_in x (reverse (w ++ option_to_list o)) ≡ done_in x (reverse w)
  last-of w None none = ap (λ v. done_in x (reverse v)) (append-nil w)
  last-of w (Some e) none = ap (done_in x) (reverse-append w (e ∷ [])) ∙ ap (λ b. if b then suc (length (reverse w)) else done_in x (reverse w)) none

  last-is : (w : List Entry) (o : Option Entry) → paid x o ≡ true → done_in x (reverse (w ++ option_to_list o)) ≡ suc (length w)
  last-is w None own_tick = absurd (let no : false ≡ true = own_tick in cc)
  last-is w (Some e) own_tick =
      ap (done_in x) (reverse-append w (e ∷ [])) ∙ ap (λ b. if b then suc (length (reverse w)) else done_in x (reverse w)) own_tick ∙ ap suc (length-reverse w)

  -- a tick that isn't paid is passed over
  pub passed-over : (s n : ℕ) → paid x (slice_get es (s + n)) ≡ false → done_in x (reverse (take (suc n) (drop s es))) ≡ done_in x (reverse (take n (drop s es)))
  passed-over s n none =
      let own = drop s es in
      ap (λ w. done_in x (reverse w)) (take-next own n) ∙ last-of (take n own) (slice_get own n) (ap (paid x) (sym (get-behind es s n)) ∙ none)

  paid-within : (xs : List Entry) (n : ℕ) (o : Option Entry) → slice_get xs n ≡ o → paid x o ≡ true → n < length xs
  paid-within xs n None is own_tick = absurd (let no : false ≡ true = own_tick in cc)
  paid-within xs n (Some e) is own_tick = got-within xs n e is

  -- one that is paid is the last
  pub found-there : (s n : ℕ) → paid x (slice_get es (s + n)) ≡ true → (done_in x (reverse (take (suc n) (drop s es))) ≡ suc n) × (s + n < length es)
  found-there s n own_tick =
      let own = drop s es in
      let is = ap (paid x) (sym (get-behind es s n)) ∙ own_tick in
      let within = paid-within own n (slice_get own n) refl is in (
        ap (λ w. done_in x (reverse w)) (take-next own n) ∙ last-is (take n own) (slice_get own n) is ∙ ap suc (length-take-le n own (omega (arith, within))),
        paid-within es (s + n) (slice_get es (s + n)) refl own_tick,
      )
