-- The slack of groups, with one group more.
use Rattle.std.proofs.Common.{ℕ, zero, suc, ◌≡◌, ◌∙◌, ◌+◌, ◌-◌, ◌<◌, ◌≤◌, ◌++◌, [], ◌∷◌, List, Bool, true, false, cond, ap, sym, refl, arith, length, length-append, append-nil, drop, zero-add}
use Rattle.std.specs.Prelude.{Option, None, count_by, flat_map, replicate, if◌then◌else◌}
use Rattle.std.proofs.lemmas.Grind.{flat_map-append}
use Rattle.std.proofs.lemmas.List.Sums.{count_by-le-length}
use Rattle.std.proofs.lemmas.List.{length-take, length-drop}
use Rattle.dk_trace.specs.declared.Label.{Label}
use Rattle.dk_trace.specs.declared.Event.{Event}
use Rattle.dk_trace.specs.declared.Entry.{Entry}
use Rattle.dk_trace.proofs.Windows.{count_by-cons}
use Rattle.dk_ledger.specs.declared.line.LedgerLine.{LedgerLine}
use Rattle.dk_ledger.specs.Cuts.{entries_of}
use Rattle.dk_ledger.specs.Readable.{Journal, IsReadable}
use Rattle.dk_ledger.proofs.EntryLists.{length-entries}
use Rattle.dk_groups.specs.Cutting.{Cutting, HasGiven}
use Rattle.dk_groups.proofs.NextLine.{groups_in_order}
use Rattle.dk_groups.proofs.Slices.{whole_slice}
use Rattle.dk_trace_events.specs.declared.slack.SlackUsed.{SlackUsed}
use Rattle.dk_trace_events.specs.SlackPoints.{is_reclaimed, is_timeline, slack_in}

abbrev labelled : (Label → Bool) → Entry → Bool
labelled p e = p e.label

count_both : (q : Entry → Bool) (xs ys : List Entry) → count_by q (xs ++ ys) ≡ count_by q xs + count_by q ys
count_both q [] ys = sym (zero-add (count_by q ys))
count_both q (x ∷ xs) ys =
    let whole = count_by-cons q x (xs ++ ys) in
    let later = count_both q xs ys in
    let front = count_by-cons q x xs in
    omega (arith, whole, later, front)

-- the ticks of the group where its label is one of those
abbrev pub ticks_if : (Label → Bool) → LedgerLine → ℕ
ticks_if p g = if p g.label then g.count else 0

last_one : (b : Bool) → cond b 1 0 + 0 ≡ (if b then 0 + 1 else 0)
last_one true = refl
last_one false = refl

one_more : (b : Bool) (n : ℕ) → cond b 1 0 + (if b then n + 1 else 0) ≡ (if b then suc n + 1 else 0)
one_more true n = omega arith
one_more false n = refl

module _ (p : Label → Bool) where
  count_same : (label : Label) (event : Option Event) (n : ℕ)
      → count_by (labelled p) (replicate n (record { label = label; event = None }) ++ record { label = label; event = event } ∷ []) ≡ (if p label then n + 1 else 0)
  count_same label event zero = count_by-cons (labelled p) (record { label = label; event = event }) [] ∙ last_one (p label)
  count_same label event (suc n) =
      count_by-cons (labelled p) (record { label = label; event = None }) (replicate n (record { label = label; event = None }) ++ record { label = label; event = event } ∷ [])
      ∙ ap (λ k. cond (p label) 1 0 + k) (count_same label event n) ∙ one_more (p label) n

  count_group : (g : LedgerLine) → 0 < g.count → count_by (labelled p) (entries_of g) ≡ ticks_if p g
  count_group g some =
      let whole : g.count - 1 + 1 ≡ g.count = omega (arith, some) in
      count_same g.label g.event (g.count - 1) ∙ ap (λ n. if p g.label then n else 0) whole

  count_more : (before : List LedgerLine) (g : LedgerLine) → 0 < g.count
      → count_by (labelled p) (flat_map entries_of (before ++ g ∷ [])) ≡ count_by (labelled p) (flat_map entries_of before) + ticks_if p g
  count_more before g some =
      ap (count_by (labelled p)) (flat_map-append entries_of before (g ∷ []) ∙ ap (λ t. flat_map entries_of before ++ t) (append-nil (entries_of g)))
      ∙ count_both (labelled p) (flat_map entries_of before) (entries_of g)
      ∙ ap (λ n. count_by (labelled p) (flat_map entries_of before) + n) (count_group g some)

  -- so many are on groups that were given, and one more
  pub few : (j : Journal) (gs : List LedgerLine) (g : LedgerLine) (c : Cutting) → IsReadable j → HasGiven j (gs ++ g ∷ []) c → 0 < g.count
      → count_by (labelled p) (flat_map entries_of gs) + g.count ≤ 10000000
  few j gs g c readable given some =
      let es = flat_map entries_of gs in
      let all = groups_in_order j (gs ++ g ∷ []) c readable given in
      let later = flat_map entries_of all.0 in
      let parts = ap length (sym (whole_slice c.from c.to j.entries) ∙ ap (flat_map entries_of) all.1 ∙ flat_map-append entries_of (gs ++ g ∷ []) all.0) in
      let front = ap length (flat_map-append entries_of gs (g ∷ []) ∙ ap (λ t. es ++ t) (append-nil (entries_of g))) in
      let one = length-append (flat_map entries_of (gs ++ g ∷ [])) later in
      let two = length-append es (entries_of g) in
      let own = length-entries g some in
      let most = count_by-le-length (labelled p) es in
      let cut = length-take (c.to - c.from) (drop c.from j.entries) in
      let rest = length-drop c.from j.entries in
      let short = readable.short in
      omega (arith, parts, front, one, two, own, most, cut, rest, short)

abbrev pub used : ℕ → ℕ → SlackUsed
used t r = record { timeline = t; reclaimed = r }

pub slack_more : (before : List LedgerLine) (g : LedgerLine) → 0 < g.count
    → slack_in (before ++ g ∷ []) ≡ used ((slack_in before).timeline + ticks_if is_timeline g) ((slack_in before).reclaimed + ticks_if is_reclaimed g)
slack_more before g some =
    ap (λ n. used n (slack_in (before ++ g ∷ [])).reclaimed) (count_more is_timeline before g some)
    ∙ ap (used ((slack_in before).timeline + ticks_if is_timeline g)) (count_more is_reclaimed before g some)
