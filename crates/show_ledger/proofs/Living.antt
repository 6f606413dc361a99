-- What one more entry makes of the windows in which a main lived.
use Rattle.std.proofs.Common.{ℕ, zero, suc, ◌≡◌, ◌-◌, ◌/◌, ◌%◌, ◌<◌, ◌≤◌, ◌⊎◌, inl, inr, ◌∙◌, refl, sym, ap, subst, arith, Bool, true, false, List, [], ◌∷◌, ◌++◌, length, map, take}
use Rattle.std.specs.Prelude.{◌||◌, if◌then◌else◌}
use Rattle.std.proofs.lemmas.Bool.{cases_Bool}
use Rattle.std.proofs.lemmas.List.{length-map, length-take-le, map-append}
use Rattle.std.proofs.Math.Nat.{div-le_self, mod-le, mod-zero}
use Rattle.dk_config.proofs.Counting.{length-map-numbers}
use Rattle.dk_trace.specs.declared.Entry.{Entry}
use Rattle.dk_trace.specs.Entries.{is_budget_of}
use Rattle.dk_trace.proofs.Windows.{mod-next}
use Rattle.dk_window_report.specs.declared.row.Did.{Did}
use Rattle.dk_window_report.specs.Windows.{did_in, ended_windows, once, present_window, stopped_once, unstopped, until_stopped, window_at}
use Rattle.dk_window_report.specs.Owners.{Owner, did_of, numbers_of, own_entries}
use Rattle.dk_window_report.specs.Rows.{raised_if, row_of}
use Rattle.dk_window_report.proofs.Steps.{did-more, ends-ended, goes-on-ended, is_gone}
use Rattle.show_ledger.specs.Tenths.{lived}

-- ---- the windows up to the one in which it was stopped

either-none : (b : Bool) (d : Did) → d ∷ (if b then [] else []) ≡ d ∷ []
either-none true d = refl
either-none false d = refl

one-more : (b g : Bool) (y d : Did) (rest more : List Did) → more ≡ (if g then rest else rest ++ d ∷ [])
    → y ∷ (if b then [] else more) ≡ (if b || g then y ∷ (if b then [] else rest) else (y ∷ (if b then [] else rest)) ++ d ∷ [])
one-more true g y d rest more h = refl
one-more false true y d rest more h = ap (λ (ds : List Did). y ∷ ds) h
one-more false false y d rest more h = ap (λ (ds : List Did). y ∷ ds) h

until-more : (ds : List Did) (d : Did) → until_stopped (ds ++ d ∷ []) ≡ (if is_gone ds then until_stopped ds else until_stopped ds ++ d ∷ [])
until-more [] d = either-none d.stopped d
until-more (y ∷ ds) d = one-more y.stopped (is_gone ds) y d (until_stopped ds) (until_stopped (ds ++ d ∷ [])) (until-more ds d)

until-le-if : (b : Bool) (n : ℕ) (ds : List Did) → length ds ≤ n → length (if b then [] else ds) ≤ n
until-le-if true n ds h = omega arith
until-le-if false n ds h = h

until-le : (ds : List Did) → length (until_stopped ds) ≤ length ds
until-le [] = omega arith
until-le (y ∷ ds) = let rest = until-le-if y.stopped (length ds) (until_stopped ds) (until-le ds) in omega (arith, rest)

-- they are as many as those of which the numbers are told
once-until-if : (b : Bool) (ds : List Did) → length (until_stopped (stopped_once ds)) ≡ length (until_stopped ds)
    → length (if b then [] else until_stopped (if b then map unstopped ds else stopped_once ds)) ≡ length (if b then [] else until_stopped ds)
once-until-if true ds h = refl
once-until-if false ds h = h

once-until : (ds : List Did) → length (until_stopped (stopped_once ds)) ≡ length (until_stopped ds)
once-until [] = refl
once-until (y ∷ ds) = ap suc (once-until-if y.stopped ds (once-until ds))

pub windows-are : (o : Owner) (past : List Entry) → (numbers_of past o).windows ≡ length (lived o past)
windows-are o past = once-until (did_of o past)

-- ---- a main's own entries are all

module _ (o : Owner) (all : o.since ≡ 0) where
  own-all : (past : List Entry) → own_entries o.since past ≡ take (length past) past
  own-all past =
      let none : length past - 0 ≡ length past = omega arith in
      ap (λ n. own_entries n past) all ∙ ap (λ n. take n past) none

  length-own : (past : List Entry) → length (own_entries o.since past) ≡ length past
  length-own past = ap length (own-all past) ∙ length-take-le (length past) past (omega arith)

  own-more : (e : Entry) (past : List Entry) → own_entries o.since (e ∷ past) ≡ e ∷ own_entries o.since past
  own-more e past = own-all (e ∷ past) ∙ ap (λ es. e ∷ es) (sym (own-all past))

  pub few-lived : (past : List Entry) → length (lived o past) ≤ length past
  few-lived past =
      let own = own_entries o.since past in
      let most = until-le (did_of o past) in
      let same = length-map (ended_windows o.period own) (did_in o.id) in
      let ended = length-map-numbers (window_at o.period own) 0 (length own / o.period) in
      let less = div-le_self (length own) o.period in
      let size = length-own past in
      omega (arith, most, same, ended, less, size)

  -- ---- one entry more

  -- With the entry a window ended in which it lived. Of its budget it had in it what it had before, and the tick if it paid.
  pub record Ends (e : Entry) (past : List Entry) : Type 0 where
    pub did : Did
    pub lived : lived o (e ∷ past) ≡ lived o past ++ did ∷ []
    pub used : did.used ≡ raised_if (is_budget_of o.id e) (row_of past o).did.used
    pub lives : (row_of past o).gone ≡ false

  once-used : (g : Bool) (d : Did) → (once g d).used ≡ d.used
  once-used true d = refl
  once-used false d = refl

  pub lived-next : (e : Entry) (past : List Entry) → length past < 4294967295 → (lived o (e ∷ past) ≡ lived o past) ⊎ Ends e past
  lived-next e past few = at-window o.period refl
    where
      own : List Entry
      own = own_entries o.since past

      same-when : suc (length own) % o.period ≡ suc (length own % o.period) → lived o (e ∷ past) ≡ lived o past
      same-when within =
          ap (λ es. until_stopped (map (did_in o.id) (ended_windows o.period es))) (own-more e past)
          ∙ ap (λ ws. until_stopped (map (did_in o.id) ws)) (goes-on-ended o.period e own within)

      last : Did
      last = did_in o.id (e ∷ present_window o.period own)

      used : last.used ≡ raised_if (is_budget_of o.id e) (row_of past o).did.used
      used =
          let size = length-own past in
          let most = mod-le (length own) o.period in
          let len : length (present_window o.period own) ≡ length own % o.period = length-take-le (length own % o.period) own (mod-le (length own) o.period) in
          let small : length (present_window o.period own) < 4294967295 = omega (arith, size, most, len, few) in
          let more = did-more o.id e (present_window o.period own) small in
          ap (λ (d : Did). d.used) more
          ∙ ap (raised_if (is_budget_of o.id e)) (sym (once-used (is_gone (did_of o past)) (did_in o.id (present_window o.period own))))

      ends-when : suc (length own % o.period) ≡ o.period → (lived o (e ∷ past) ≡ lived o past) ⊎ Ends e past
      ends-when full =
          let more : did_of o (e ∷ past) ≡ did_of o past ++ last ∷ [] =
          ap (λ es. map (did_in o.id) (ended_windows o.period es)) (own-more e past)
          ∙ ap (map (did_in o.id)) (ends-ended o.period e own full)
          ∙ map-append (did_in o.id) (ended_windows o.period own) ((e ∷ present_window o.period own) ∷ []) in
          let next = ap until_stopped more ∙ until-more (did_of o past) last in
          elim (cases_Bool (is_gone (did_of o past))) [
            | inl gone ↦ inl (next ∙ ap (λ b. if b then lived o past else lived o past ++ last ∷ []) gone)
            | inr lives ↦
                inr (record { did = last; lived = next ∙ ap (λ b. if b then lived o past else lived o past ++ last ∷ []) lives; used = used; lives = lives })
          ]

      at-window : (q : ℕ) → q ≡ o.period → (lived o (e ∷ past) ≡ lived o past) ⊎ Ends e past
      at-window zero none =
          inl (same-when (subst (λ q. suc (length own) % q ≡ suc (length own % q)) none (mod-zero (suc (length own)) ∙ ap suc (sym (mod-zero (length own))))))
      at-window (suc q) some =
          elim (mod-next (length own) o.period (omega (arith, some))) [
            | inl parts ↦ ends-when parts.1
            | inr within ↦ inl (same-when within)
          ]
