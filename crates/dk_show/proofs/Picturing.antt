-- What is shown of a ledger in the range that is asked for.
use Rattle.dk_show.proofs.Names.{ℕ, ◌≡◌, ◌∙◌, ◌<◌, ◌≤◌, List, length, sym, ap, subst, refl, Option, LedgerLine, Journal, groups, MAX_GROUPS, IsTooMany, Promised, promised_svg, Range, refusal_text, IsCrowded, IsPastEnd, IsPictured, from_of, groups_asked, to_of}
use Rattle.dk_show.specs.declared.refusal.Refusal.TheVariants as why
use Rattle.dk_show.specs.declared.status.Status.TheVariants as status

module _ (x : Promised) (range : Option Range) (j : Journal) (from to ticks : ℕ) (count : length j.entries ≡ ticks) (is_from : from ≡ from_of range) (is_to : to ≡ to_of range ticks) where
  all : to ≡ to_of range (length j.entries)
  all = is_to ∙ ap (to_of range) (sym count)

  same_groups : groups from to j.entries ≡ groups_asked range j
  same_groups = ap (λ n. groups n to j.entries) is_from ∙ ap (λ n. groups (from_of range) n j.entries) all

  ends_within : to ≤ ticks → to_of range (length j.entries) ≤ length j.entries
  ends_within within = subst (λ n. n ≤ length j.entries) all (subst (λ n. to ≤ n) (sym count) within)

  pub pictured : (text : List ℕ) → to ≤ ticks → text ≡ promised_svg x from to j.heading j.entries → length (groups from to j.entries) ≤ MAX_GROUPS → IsPictured x range j text status.Done
  pictured text within drawn few = record {
    within = ends_within within;
    few = subst (λ (gs : List LedgerLine). length gs ≤ MAX_GROUPS) same_groups few;
    drawn = drawn ∙ ap (λ n. promised_svg x n to j.heading j.entries) is_from ∙ ap (λ n. promised_svg x (from_of range) n j.heading j.entries) all;
    done = refl;
  }

  pub crowded : (tick : ℕ) → to ≤ ticks → IsTooMany (groups from to j.entries) tick → IsCrowded range j (refusal_text (why.TooManyGroups tick)) status.Refused
  crowded tick within many = record {
    within = ends_within within;
    tick = tick;
    many = subst (λ (gs : List LedgerLine). IsTooMany gs tick) same_groups many;
    says = (refl, refl);
  }

  pub past_end : ticks < to → IsPastEnd range j (refusal_text (why.RangeEnds ticks)) status.Refused
  past_end far = record {
    behind = subst (λ n. length j.entries < n) all (subst (λ n. n < to) (sym count) far);
    says = (ap (λ n. refusal_text (why.RangeEnds n)) (sym count), refl);
  }
