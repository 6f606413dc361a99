-- Ticks that change no s of a run.
use Rattle.dk_cycle.proofs.Names.{ℕ, zero, suc, ◌≡◌, ◌+◌, ◌∙◌, ◌∷◌, ◌++◌, List, Some, None, refl, sym, ap, subst, arith, replicate, Configuration, IsChecked, IsAccepted, Label, Entry, quiet, trace, world, EntriesKeepThreads, EntriesShowReads, caller, RunSearch, StartSearch, IsReader, IsRunSearch, IsStartSearch, SearchesStay, StartsStay, option_or}
use Rattle.dk_cycle.proofs.Serials.{none-quietly, step-adds}
use Rattle.dk_cycle.proofs.Stands.{followed}
use Rattle.dk_cycle.proofs.Starts.{start-quiet}

-- the last of some ticks with one entry, and those before it
last-of : (c : Configuration) (programs : List (List ℕ)) (tick n : ℕ) (e : Entry)
    → trace c programs (tick + suc n) ≡ replicate (suc n) e ++ trace c programs tick
    → (trace c programs (tick + n + 1) ≡ e ∷ trace c programs (tick + n)) × (trace c programs (tick + n) ≡ replicate n e ++ trace c programs tick)
last-of c programs tick n e all =
    let up : suc (tick + n) ≡ tick + suc n = omega arith in
    let more : tick + n + 1 ≡ suc (tick + n) = omega arith in
    let added = step-adds c (world c programs (tick + n)) in
    let both : added.0 ∷ trace c programs (tick + n) ≡ e ∷ (replicate n e ++ trace c programs tick) = sym added.1 ∙ ap (trace c programs) up ∙ all in
    let first : added.0 ≡ e = cc in
    let rest : trace c programs (tick + n) ≡ replicate n e ++ trace c programs tick = cc in
    (ap (trace c programs) more ∙ added.1 ∙ ap (λ f. f ∷ trace c programs (tick + n)) first, rest)

module _ (keeping : EntriesKeepThreads) (showing : EntriesShowReads) (c : Configuration) (programs : List (List ℕ)) (checked : IsChecked c) (accepted : IsAccepted c)
    (label : Label) (nobody : caller label ≡ None) where
  no-reader : (tick : ℕ) → trace c programs (tick + 1) ≡ quiet label ∷ trace c programs tick → IsReader c programs tick (quiet label) None
  no-reader tick adds p reads =
      let shown = (showing c programs tick (quiet label) checked accepted adds).only p reads in
      let is : caller label ≡ Some shown.0 = shown.1 in
      cc

  searches : (tick n : ℕ) (s : RunSearch) → trace c programs (tick + n) ≡ replicate n (quiet label) ++ trace c programs tick → IsRunSearch c programs tick s
      → IsRunSearch c programs (tick + n) s
  searches tick zero s entries is = (let none : tick ≡ tick + 0 = omega arith in subst (λ t. IsRunSearch c programs t s) none is)
  searches tick (suc n) s entries is =
      let parts = last-of c programs tick n (quiet label) entries in
      let more : tick + n + 1 ≡ tick + suc n = omega arith in
      subst (λ t. IsRunSearch c programs t s) more
      (followed c programs (tick + n) s (quiet label) None s.reader s.made s.kept keeping showing (λ kept. record { still = kept; keeps = refl; none = refl }) refl
      (sym (ap (λ o. option_or o s.made) (none-quietly (tick + n) label)))
      checked accepted (searches tick n s parts.1 is) parts.0 (no-reader (tick + n) parts.0))

  starts : (tick n : ℕ) (s : StartSearch) → trace c programs (tick + n) ≡ replicate n (quiet label) ++ trace c programs tick → IsStartSearch c programs tick s
      → IsStartSearch c programs (tick + n) s
  starts tick zero s entries is = (let none : tick ≡ tick + 0 = omega arith in subst (λ t. IsStartSearch c programs t s) none is)
  starts tick (suc n) s entries is =
      let parts = last-of c programs tick n (quiet label) entries in
      let more : tick + n + 1 ≡ tick + suc n = omega arith in
      subst (λ t. IsStartSearch c programs t s) more
      (start-quiet c programs (tick + n) s (quiet label) None keeping showing checked accepted (starts tick n s parts.1 is) parts.0
      (no-reader (tick + n) parts.0) (record { still = refl; keeps = refl; none = refl }))

pub searches-stay : EntriesKeepThreads → EntriesShowReads → SearchesStay
searches-stay keeping showing c programs tick many s checked accepted go is =
    searches keeping showing c programs checked accepted go.label go.nobody tick many s go.entries is

pub starts-stay : EntriesKeepThreads → EntriesShowReads → StartsStay
starts-stay keeping showing c programs tick many s checked accepted go is =
    starts keeping showing c programs checked accepted go.label go.nobody tick many s go.entries is
