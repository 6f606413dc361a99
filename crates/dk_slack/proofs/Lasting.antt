-- For how long slack comes from where it does now.
use Rattle.dk_slack.proofs.Names.{◌≡◌, ◌+◌, ◌-◌, ◌<◌, ◌≤◌, ◌∙◌, ℕ, List, [], ◌∷◌, length, get_or, refl, ap, sym, arith, None, Option, Some, get_or-map, Source, counted_for, source, Lasts, nat_tests}
use Rattle.dk_slack.specs.declared.unclaimed.Lasting.{Lasting}
use Rattle.dk_slack.proofs.Counts.{source_from, source-hit, source-miss}
use Rattle.dk_slack.proofs.Running.{all-counted}

-- no tick counts nothing
pub counted-none : (us : List ℕ) → counted_for 0 None us ≡ us
counted-none [] = refl
counted-none (u ∷ us) = let same : u + 0 ≡ u = omega arith in rw (same, counted-none us) refl

-- ticks after ticks
pub counted-more : (k n : ℕ) (us : List ℕ) → counted_for k None (counted_for n None us) ≡ counted_for (n + k) None us
counted-more k n [] = refl
counted-more k n (u ∷ us) = let same : u + n + k ≡ u + (n + k) = omega arith in rw (same, counted-more k n us) refl

-- where it comes from now
pub lasts-now : (lasting : Lasting) (us spares : List ℕ) → Lasts lasting us spares → 0 < lasting.ticks → lasting.source ≡ source us spares
lasts-now lasting us spares lasts some = sym (lasts 0 some) ∙ ap (λ ns. source ns spares) (counted-none us)

-- after ticks of nobody it lasts as much shorter
pub lasts-on : (n : ℕ) (lasting next : Lasting) (us ns spares : List ℕ) → Lasts lasting us spares → ns ≡ counted_for n None us
    → next.ticks ≡ lasting.ticks - n → next.source ≡ lasting.source → Lasts next ns spares
lasts-on n lasting next us ns spares lasts counted ticks same k before =
    ap (λ ms. source (counted_for k None ms) spares) counted
    ∙ ap (λ ms. source ms spares) (counted-more k n us)
    ∙ lasts (n + k) (omega (arith, before, ticks))
    ∙ sym same

-- ticks of a level that isn't there are those of nobody
pub counted-stranger : (n level : ℕ) (booked : Option ℕ) (us : List ℕ) → booked ≡ Some level → length us ≤ level
    → counted_for n booked us ≡ counted_for n None us
counted-stranger n level booked us is past = rw is (sym (all-counted n level us past))

pub counted-nobody : (n : ℕ) (booked : Option ℕ) (us : List ℕ) → booked ≡ None → counted_for n booked us ≡ counted_for n None us
counted-nobody n booked us is = rw is refl

module _ (us spares : List ℕ) (level k : ℕ) (known : level < length us) (inside : level < length spares) where
  -- a level that has none of its spare left has none later
  pub lasts-hit : get_or spares level 0 ≤ get_or us level 0 → source_from (counted_for k None us) spares level ≡ Source.Reclaimed level
  lasts-hit over = grind (arith, nat_tests, get_or-map, source-hit)

  -- and one that still has some is passed over
  pub lasts-miss : get_or us level 0 + k < get_or spares level 0 → source_from (counted_for k None us) spares level ≡ source_from (counted_for k None us) spares (level + 1)
  lasts-miss under = grind (arith, nat_tests, get_or-map, source-miss)
