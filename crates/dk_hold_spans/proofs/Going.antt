-- The holds that a line of a ledger ends.
use Rattle.std.proofs.Common.{ℕ, zero, suc, ◌≡◌, ◌∙◌, ◌+◌, ◌-◌, ◌<◌, ◌++◌, [], ◌∷◌, List, length, sym, ap, refl, arith, append_assoc, append-nil, length-append}
use Rattle.std.specs.Prelude.{Option, Some, None, flat_map, if◌then◌else◌, replicate, reverse}
use Rattle.std.proofs.lemmas.List.{length-replicate, length-reverse}
use Rattle.dk_config.specs.Sums.{below}
use Rattle.dk_trace.specs.declared.Label.{Label}
use Rattle.dk_trace.specs.declared.Entry.{Entry}
use Rattle.dk_trace.specs.Entries.{quiet}
use Rattle.dk_ledger.specs.declared.line.LedgerLine.{LedgerLine}
use Rattle.dk_ledger.specs.Cuts.{entries_of}
use Rattle.dk_holds.specs.declared.holding.Holding.{Holding}
use Rattle.dk_holds.specs.Holds.{ended, holding, last_entry}
use Rattle.dk_holds.proofs.Stepping.{newest, none_ends}
pub use Rattle.dk_holds.proofs.Stepping.{quiet_run as same_holder}
use Rattle.dk_hold_spans.specs.declared.hold.Hold.{Hold}
use Rattle.dk_hold_spans.specs.HoldLists.{ended_hold, ended_holds, part_from}
use Rattle.dk_hold_spans.proofs.Adding.{none_added, same_added}

quiet_ends_none : (m : ℕ) (label : Label) (held : Option Holding) → ended m (quiet label) held ≡ None
quiet_ends_none m label None = refl
quiet_ends_none m label (Some h) = ap (λ b. if b then Some h else None) (none_ends m h.thread label)

one_quiet : (from : ℕ) (past : List Entry) (label : Label) → ended_holds from (quiet label ∷ past) ≡ ended_holds from past
one_quiet from past label =
    let none = none_added (ended_hold from past (quiet label)) (λ m. ap (part_from from m (length past + 1)) (quiet_ends_none m label (holding m past))) 0 16 in
    ap (λ t. ended_holds from past ++ t) none ∙ append-nil (ended_holds from past)

quiet_end_none : (from : ℕ) (label : Label) (n : ℕ) (es : List Entry) → ended_holds from (reverse (es ++ replicate n (quiet label))) ≡ ended_holds from (reverse es)
quiet_end_none from label zero es = ap (λ t. ended_holds from (reverse t)) (append-nil es)
quiet_end_none from label (suc n) es =
    ap (λ t. ended_holds from (reverse t)) (sym (append_assoc es (quiet label ∷ []) (replicate n (quiet label))))
    ∙ quiet_end_none from label n (es ++ quiet label ∷ []) ∙ ap (ended_holds from) (newest es (quiet label))
    ∙ one_quiet from (reverse es) label

-- what the line ends
abbrev pub ends_of : ℕ → LedgerLine → List Entry → ℕ → List Hold
ends_of from l past m = part_from from m (l.start + l.count) (ended m (last_entry l) (holding m past))

pub line_ends : (from : ℕ) (l : LedgerLine) (es : List Entry) → 0 < l.count → l.start ≡ length es
    → ended_holds from (reverse (es ++ entries_of l)) ≡ ended_holds from (reverse es) ++ flat_map (ends_of from l (reverse es)) (below 16)
line_ends from l es some start =
    let quiets = replicate (l.count - 1) (quiet l.label) in
    let front = es ++ quiets in
    let all = length-append es quiets in
    let count = length-replicate (l.count - 1) (quiet l.label) in
    let back = length-reverse front in
    let ticks : length (reverse front) + 1 ≡ l.start + l.count = omega (arith, all, count, back, start, some) in
    ap (λ t. ended_holds from (reverse t)) (sym (append_assoc es quiets (last_entry l ∷ []))) ∙ ap (ended_holds from) (newest front (last_entry l))
    ∙ ap (λ t. t ++ flat_map (ended_hold from (reverse front) (last_entry l)) (below 16)) (quiet_end_none from l.label (l.count - 1) es)
    ∙ ap (λ t. ended_holds from (reverse es) ++ t)
    (same_added (ended_hold from (reverse front) (last_entry l)) (ends_of from l (reverse es))
    (λ m. ap (λ n. part_from from m n (ended m (last_entry l) (holding m (reverse front)))) ticks
    ∙ ap (λ o. part_from from m (l.start + l.count) (ended m (last_entry l) o)) (same_holder m l.label (l.count - 1) es)) 0 16)

-- a line without an event ends none
pub no_ends : (from : ℕ) (l : LedgerLine) (es : List Entry) → 0 < l.count → l.start ≡ length es → l.event ≡ None
    → ended_holds from (reverse (es ++ entries_of l)) ≡ ended_holds from (reverse es)
no_ends from l es some start none =
    let past = reverse es in
    let nothing = none_added (ends_of from l past)
    (λ m. ap (λ event. part_from from m (l.start + l.count) (ended m (record { label = l.label; event = event }) (holding m past))) none
    ∙ ap (part_from from m (l.start + l.count)) (quiet_ends_none m l.label (holding m past))) 0 16 in
    line_ends from l es some start ∙ ap (λ t. ended_holds from past ++ t) nothing ∙ append-nil (ended_holds from past)
