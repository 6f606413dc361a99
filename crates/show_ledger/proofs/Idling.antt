-- What a main uses while nothing happens to it.
use Rattle.std.proofs.Common.{ℕ, zero, suc, ◌≡◌, ◌<◌, ◌⊎◌, inl, inr, ◌∙◌, refl, ap, arith, true, false}
use Rattle.std.specs.Prelude.{◌||◌}
use Rattle.std.proofs.lemmas.Bool.{cases_Bool, or_parts}
use Rattle.dk_window_report.specs.declared.row.Did.{Did}
use Rattle.dk_window_report.specs.declared.row.WindowCounts.{WindowCounts}
use Rattle.dk_window_report.specs.declared.row.Row.{Row}
use Rattle.dk_window_report.specs.Rows.{counts_with}
use Rattle.dk_window_report.specs.Late.{after, idled}
use Rattle.show_ledger.proofs.TenthCounts.{IsUsed}

-- it is gone, or uses nothing but what it used before in the present window
abbrev pub Idles : Row → Row → Type 0
Idles r s = (s.gone ≡ true) ⊎ IsUsed r.did.used r.counts.windows s.counts.windows s.did.used

grown-windows : (n : ℕ) (c : WindowCounts) (d : Did) → (idled false n (counts_with false c d)).windows < 4294967295
    → c.windows < (idled false n (counts_with false c d)).windows
grown-windows zero c d few = omega (arith, few)
grown-windows (suc n) c d few = omega (arith, few)

pub idles : (n : ℕ) (r : Row) → (after n r).counts.windows < 4294967295 → Idles r (after n r)
idles zero r few = inr (inl (refl, refl))
idles (suc n) r few =
    elim (cases_Bool (r.gone || r.did.stopped)) [
      | inl gone ↦ inl gone
      | inr lives ↦
          let own : r.gone ≡ false = (or_parts r.gone r.did.stopped lives).0 in
          let same : (after (suc n) r).counts.windows ≡ (idled false n (counts_with false r.counts r.did)).windows =
          ap (λ b. (idled b n (counts_with r.gone r.counts r.did)).windows) lives ∙ ap (λ b. (idled false n (counts_with b r.counts r.did)).windows) own in
          let small : (idled false n (counts_with false r.counts r.did)).windows < 4294967295 = omega (arith, same, few) in
          let more = grown-windows n r.counts r.did small in
          let less : r.counts.windows < (after (suc n) r).counts.windows = omega (arith, same, more) in
          inr (inr (less, refl))
    ]
