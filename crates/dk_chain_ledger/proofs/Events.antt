-- The events before a window, and the reactions to those of the first windows.
use Rattle.std.proofs.Common.{ℕ, zero, suc, ◌≡◌, ◌+◌, ◌-◌, ◌*◌, ◌<◌, ◌≤◌, ◌⊎◌, inl, inr, cond, ltb, eqb, true, false, List, length, refl, sym, ap, ◌∙◌, subst, arith, Option, Some, None}
use Rattle.std.specs.Prelude.{option_map, min}
use Rattle.std.proofs.lemmas.Bool.{cases_lt}
use Rattle.std.proofs.lemmas.Bool.Decides.{nat_tests}
use Rattle.std.proofs.lemmas.Nat.{div-add-mod'}
use Rattle.std.proofs.Math.Nat.{mod-lt, mul-le-mul_right, suc-mul}
use Rattle.dk_chain_ledger.specs.declared.reactions.Reactions.{Reactions}
use Rattle.dk_chain_ledger.specs.Reactions.{AreReactions, TellsReactions, first_event, first_window, joined, of_window, reaction_by, reaction_in}
use Rattle.std.specs.Option.{option_map_or}
use Rattle.dk_config.specs.Configuration.{Configuration}
use Rattle.dk_config.specs.Windows.{main_level, period}
use Rattle.dk_trace.specs.declared.Entry.{Entry}
use Rattle.dk_chain_ledger.specs.declared.tables.Track.{Track}
use Rattle.dk_chain_ledger.specs.Tables.{IsTrackOf, told}
use Rattle.dk_chain_ledger.proofs.Told.{told_past}

-- the first window that starts at t or after starts at t or after
window-high : (P t : ℕ) → 0 < P → t ≤ first_window P t * P
window-high P t some =
    let split = div-add-mod' (t + (P - 1)) P in
    let rest = mod-lt (t + (P - 1)) some in
    omega (arith, split, rest)

-- and the one before it starts before t
window-low : (P t k : ℕ) → 0 < P → suc k ≤ first_window P t → k * P + 1 ≤ t
window-low P t k some more =
    let split = div-add-mod' (t + (P - 1)) P in
    let rest = mod-lt (t + (P - 1)) some in
    let le : suc k * P ≤ first_window P t * P = mul-le-mul_right P more in
    let step : suc k * P ≡ k * P + P = suc-mul k P in
    omega (arith, split, rest, le, step)

event-suc : (P k : ℕ) → first_event P (suc k) ≡ k * P + 1
event-suc P k =
    let no : eqb (suc k) 0 ≡ false = grind (arith, nat_tests) in
    let before : suc k - 1 ≡ k = omega arith in
    rw (no, before) refl

event-low : (P t n : ℕ) → 0 < P → first_window P t ≡ n → first_event P n ≤ t
event-low P t zero some is = omega arith
event-low P t (suc k) some is =
    let low : k * P + 1 ≤ t = window-low P t k some (omega (arith, is)) in
    let event : first_event P (suc k) ≡ k * P + 1 = event-suc P k in
    omega (arith, low, event)

event-high : (P t n : ℕ) → 0 < P → first_window P t ≡ n → t ≤ n * P
event-high P t n some is = subst (λ (k : ℕ). t ≤ k * P) is (window-high P t some)

-- an event of an earlier window comes before
event-before : (P t n : ℕ) → 0 < P → first_window P t < n → t < first_event P n
event-before P t zero some less = absurd (omega arith)
event-before P t (suc k) some less =
    let high = window-high P t some in
    let le : first_window P t * P ≤ k * P = mul-le-mul_right P (omega arith) in
    let event : first_event P (suc k) ≡ k * P + 1 = event-suc P k in
    omega (arith, high, le, event)

event-is : (P t n : ℕ) → 0 < P → first_event P n ≤ t → t ≤ n * P → first_window P t ≡ n
event-is P t n some low high =
    elim (cases_lt (first_window P t) n) [
      | inl less ↦ let before = event-before P t n some less in absurd (omega (arith, before, low))
      | inr more ↦
          elim (cases_lt n (first_window P t)) [
            | inr same ↦ omega (arith, more, same)
            | inl above ↦ let late = window-low P t n some (omega (arith, above)) in absurd (omega (arith, late, high))
          ]
    ]

event-within : (P n : ℕ) → 0 < P → first_event P n ≤ n * P
event-within P zero some = omega arith
event-within P (suc k) some =
    let event : first_event P (suc k) ≡ k * P + 1 = event-suc P k in
    let step : suc k * P ≡ k * P + P = suc-mul k P in
    omega (arith, event, step, some)

-- the reactions to the events of the first n windows
abbrev pub reaction_below : (ℕ → Option ℕ) → ℕ → ℕ → ℕ → Option ℕ
reaction_below ends P n t = cond (ltb (first_window P t) n) (reaction_by ends P t) None

is-below : (ends : ℕ → Option ℕ) (P n t : ℕ) → first_window P t < n → reaction_below ends P n t ≡ reaction_by ends P t
is-below ends P n t less = let yes : ltb (first_window P t) n ≡ true = grind (arith, nat_tests) in rw yes refl

not-below : (ends : ℕ → Option ℕ) (P n t : ℕ) → n ≤ first_window P t → reaction_below ends P n t ≡ None
not-below ends P n t more = let no : ltb (first_window P t) n ≡ false = grind (arith, nat_tests) in rw no refl

of-window : (ends : ℕ → Option ℕ) (P n t : ℕ) → first_window P t ≡ n → reaction_by ends P t ≡ option_map (λ end. end - t) (ends n)
of-window ends P n t is = ap (λ k. option_map (λ end. end - t) (ends k)) is

-- a window that ends no chain adds nothing
pub same-below : (ends : ℕ → Option ℕ) (P n t : ℕ) → ends n ≡ None → reaction_below ends P n t ≡ reaction_below ends P (suc n) t
same-below ends P n t none =
    elim (cases_lt (first_window P t) n) [
      | inl less ↦ is-below ends P n t less ∙ sym (is-below ends P (suc n) t (omega arith))
      | inr more ↦
          elim (cases_lt n (first_window P t)) [
            | inl above ↦ not-below ends P n t (omega arith) ∙ sym (not-below ends P (suc n) t (omega arith))
            | inr same ↦
                let is : first_window P t ≡ n = omega (arith, more, same) in
                not-below ends P n t more
                ∙ sym (is-below ends P (suc n) t (omega (arith, is)) ∙ of-window ends P n t is ∙ ap (option_map (λ end. end - t)) none)
          ]
    ]

-- all windows that the list has are all that end a chain
pub all-below : (ends : List (Option ℕ)) (P n t : ℕ) → length ends ≤ n → reaction_below (told ends) P n t ≡ reaction_by (told ends) P t
all-below ends P n t le =
    elim (cases_lt (first_window P t) n) [
      | inl less ↦ is-below (told ends) P n t less
      | inr more ↦
          not-below (told ends) P n t more
          ∙ sym (ap (option_map (λ end. end - t)) (told_past ends (first_window P t) (omega (arith, le, more))))
    ]

abbrev IsNew : ℕ → ℕ → ℕ → ℕ → ℕ → Type 0
IsNew P n end t d = (first_event P n ≤ t) × (t ≤ n * P) × (d ≡ end - t)

some-is : (a b : ℕ) → Some a ≡ Some b → a ≡ b
some-is a b same = cc

-- what is answered within one window more
below-cases : (ends : ℕ → Option ℕ) (P n end t d : ℕ) → 0 < P → ends n ≡ Some end → reaction_below ends P (suc n) t ≡ Some d
    → (reaction_below ends P n t ≡ Some d × (t < first_event P n)) ⊎ IsNew P n end t d
below-cases ends P n end t d some is has =
    elim (cases_lt (first_window P t) n) [
      | inl less ↦
          inl (is-below ends P n t less ∙ sym (is-below ends P (suc n) t (omega arith)) ∙ has, event-before P t n some less)
      | inr more ↦
          elim (cases_lt n (first_window P t)) [
            | inl above ↦ let none = not-below ends P (suc n) t (omega arith) in absurd (cc)
            | inr same ↦
                let at : first_window P t ≡ n = omega (arith, more, same) in
                let now : Some (end - t) ≡ Some d =
                sym (is-below ends P (suc n) t (omega (arith, at)) ∙ of-window ends P n t at ∙ ap (option_map (λ (k : ℕ). k - t)) is) ∙ has in
                inr (event-low P t n some at, event-high P t n some at, sym (some-is (end - t) d now))
          ]
    ]

below-new : (ends : ℕ → Option ℕ) (P n end t : ℕ) → 0 < P → ends n ≡ Some end → first_event P n ≤ t → t ≤ n * P
    → reaction_below ends P (suc n) t ≡ Some (end - t)
below-new ends P n end t some is low high =
    let at = event-is P t n some low high in
    is-below ends P (suc n) t (omega (arith, at)) ∙ of-window ends P n t at ∙ ap (option_map (λ (k : ℕ). k - t)) is

below-old : (ends : ℕ → Option ℕ) (P n t d : ℕ) → 0 < P → reaction_below ends P n t ≡ Some d
    → (reaction_below ends P (suc n) t ≡ Some d) × (t < first_event P n)
below-old ends P n t d some has =
    elim (cases_lt (first_window P t) n) [
      | inl less ↦ (is-below ends P (suc n) t (omega arith) ∙ sym (is-below ends P n t less) ∙ has, event-before P t n some less)
      | inr more ↦ let none = not-below ends P n t more in absurd (cc)
    ]

pub tells-same : (r r' : ℕ → Option ℕ) (seen : Option Reactions) → ((t : ℕ) → r t ≡ r' t) → TellsReactions r seen → TellsReactions r' seen
tells-same r r' None same tells = λ t. sym (same t) ∙ tells t
tells-same r r' (Some seen) same tells = record {
  longest = sym (same seen.event) ∙ tells.longest;
  most = λ t d has. tells.most t d (same t ∙ has);
  first = λ t d less has. tells.first t d less (same t ∙ has);
  shortest = (tells.shortest.0, sym (same tells.shortest.0) ∙ tells.shortest.1);
  least = λ t d has. tells.least t d (same t ∙ has);
}

tells-first : (ends : ℕ → Option ℕ) (P n end : ℕ) → 0 < P → ends n ≡ Some end → ((t : ℕ) → reaction_below ends P n t ≡ None)
    → AreReactions (reaction_below ends P (suc n)) (of_window P n end)
tells-first ends P n end some is none =
    let low = event-within P n some in
    let of : (t d : ℕ) → reaction_below ends P (suc n) t ≡ Some d → IsNew P n end t d = λ t d has.
    (elim (below-cases ends P n end t d some is has) [ inl old ↦ (let no = none t in let was = old.0 in absurd (cc)) | inr new ↦ new ]) in
    record {
      longest = below-new ends P n end (first_event P n) some is (omega arith) low;
      most = λ t d has. let new = of t d has in omega (arith, new.0, new.1, new.2);
      first = λ t d less has. let new = of t d has in absurd (omega (arith, new.0, less));
      shortest = (n * P, below-new ends P n end (n * P) some is low (omega arith));
      least = λ t d has. let new = of t d has in omega (arith, new.0, new.1, new.2);
    }

shorter : (r : ℕ → Option ℕ) (t u a b : ℕ) → r t ≡ Some a → r u ≡ Some b → (v : ℕ) × (r v ≡ Some (min a b))
shorter r t u a b one other =
    elim (cases_lt a b) [
      | inl less ↦ let is : min a b ≡ a = omega arith in (t, one ∙ ap (λ (d : ℕ). Some d) (sym is))
      | inr more ↦ let is : min a b ≡ b = omega arith in (u, other ∙ ap (λ (d : ℕ). Some d) (sym is))
    ]

tells-next : (ends : ℕ → Option ℕ) (P n end : ℕ) (seen : Reactions) → 0 < P → ends n ≡ Some end → AreReactions (reaction_below ends P n) seen
    → AreReactions (reaction_below ends P (suc n)) (joined (Some seen) (of_window P n end))
tells-next ends P n end seen some is was =
    let low = event-within P n some in
    let old = below-old ends P n seen.event seen.longest some was.longest in
    let old' = below-old ends P n was.shortest.0 seen.shortest some was.shortest.1 in
    let first = below-new ends P n end (first_event P n) some is (omega arith) low in
    let last = below-new ends P n end (n * P) some is low (omega arith) in
    let cases : (t d : ℕ) → reaction_below ends P (suc n) t ≡ Some d
    → (reaction_below ends P n t ≡ Some d × (t < first_event P n)) ⊎ IsNew P n end t d = λ t d has. below-cases ends P n end t d some is has in
    elim (cases_lt seen.longest (end - first_event P n)) [
      | inl more ↦
          let test : ltb seen.longest (end - first_event P n) ≡ true = grind (arith, nat_tests) in
          let event : (joined (Some seen) (of_window P n end)).event ≡ first_event P n = rw test refl in
          let longest : (joined (Some seen) (of_window P n end)).longest ≡ end - first_event P n = omega (arith, more) in
          record {
            longest = subst (λ (t : ℕ). reaction_below ends P (suc n) t ≡ Some (joined (Some seen) (of_window P n end)).longest) (sym event)
                (first ∙ ap (λ (d : ℕ). Some d) (sym longest));
            most = λ t d has. elim (cases t d has) [
              | inl o ↦ let m = was.most t d o.0 in omega (arith, m)
              | inr w ↦ omega (arith, w.0, w.2)
            ];
            first = λ t d less has. elim (cases t d has) [
              | inl o ↦ let m = was.most t d o.0 in omega (arith, m, more, longest)
              | inr w ↦ absurd (omega (arith, w.0, less, event))
            ];
            shortest = shorter (reaction_below ends P (suc n)) was.shortest.0 (n * P) seen.shortest (end - n * P) old'.0 last;
            least = λ t d has. elim (cases t d has) [
              | inl o ↦ let m = was.least t d o.0 in omega (arith, m)
              | inr w ↦ omega (arith, w.1, w.2)
            ];
          }
      | inr less ↦
          let test : ltb seen.longest (end - first_event P n) ≡ false = grind (arith, nat_tests) in
          let event : (joined (Some seen) (of_window P n end)).event ≡ seen.event = rw test refl in
          let longest : (joined (Some seen) (of_window P n end)).longest ≡ seen.longest = omega (arith, less) in
          record {
            longest = subst (λ (t : ℕ). reaction_below ends P (suc n) t ≡ Some (joined (Some seen) (of_window P n end)).longest) (sym event)
                (old.0 ∙ ap (λ (d : ℕ). Some d) (sym longest));
            most = λ t d has. elim (cases t d has) [
              | inl o ↦ let m = was.most t d o.0 in omega (arith, m)
              | inr w ↦ omega (arith, w.0, w.2)
            ];
            first = λ t d before has. elim (cases t d has) [
              | inl o ↦ let m = was.first t d (omega (arith, before, event)) o.0 in omega (arith, m, longest)
              | inr w ↦ absurd (omega (arith, w.0, before, event, old.1))
            ];
            shortest = shorter (reaction_below ends P (suc n)) was.shortest.0 (n * P) seen.shortest (end - n * P) old'.0 last;
            least = λ t d has. elim (cases t d has) [
              | inl o ↦ let m = was.least t d o.0 in omega (arith, m)
              | inr w ↦ omega (arith, w.1, w.2)
            ];
          }
    ]

-- one window more
pub tells_with : (ends : List (Option ℕ)) (P n : ℕ) (end : Option ℕ) (seen seen' : Option Reactions) → 0 < P → end ≡ told ends n
    → seen' ≡ option_map_or (λ k. Some (joined seen (of_window P n k))) end seen → TellsReactions (reaction_below (told ends) P n) seen
    → TellsReactions (reaction_below (told ends) P (n + 1)) seen'
tells_with ends P n end seen seen' some at is tells =
    let plus : suc n ≡ n + 1 = omega arith in
    subst (λ k. TellsReactions (reaction_below (told ends) P k) seen') plus
    (subst (TellsReactions (reaction_below (told ends) P (suc n))) (sym is) (go end seen (sym at) tells))
  where
    go : (end : Option ℕ) (seen : Option Reactions) → told ends n ≡ end → TellsReactions (reaction_below (told ends) P n) seen
        → TellsReactions (reaction_below (told ends) P (suc n)) (option_map_or (λ k. Some (joined seen (of_window P n k))) end seen)
    go None seen none tells = tells-same (reaction_below (told ends) P n) (reaction_below (told ends) P (suc n)) seen (λ t. same-below (told ends) P n t none) tells
    go (Some k) None is tells = tells-first (told ends) P n k some is tells
    go (Some k) (Some seen) is tells = tells-next (told ends) P n k seen some is tells

-- the table of a chain's first process has the reactions of the chain
pub same-reaction : (c : Configuration) (es : List Entry) (p : ℕ) (rest : List ℕ) (track : Track) → IsTrackOf c es p rest track
    → (t : ℕ) → reaction_by (told track.ends.items) track.ticks t ≡ reaction_in c es p rest t
same-reaction c es p rest track is t =
    ap (λ P. reaction_by (told track.ends.items) P t) is.ticks
    ∙ ap (option_map (λ end. end - t)) (is.ends (first_window (period c (main_level c p)) t))
