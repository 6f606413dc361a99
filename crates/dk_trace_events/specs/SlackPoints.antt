-- A counter of the slack that was used, by where it came from.
use Rattle.std.specs.Prelude.{ℕ, ◌+◌, ◌++◌, ◌==◌, ◌&&◌, [], ◌∷◌, Bool, true, false, List, codes, decimal, count_by, flat_map, Option, Some, None, if◌then◌else◌}
use Rattle.dk_trace.specs.declared.Source.{Source}
use Rattle.dk_trace.specs.declared.Label.{Label}
use Rattle.dk_trace.specs.declared.Entry.{Entry}
use Rattle.dk_ledger.specs.declared.line.LedgerLine.{LedgerLine}
use Rattle.dk_ledger.specs.Cuts.{entries_of}
use Rattle.dk_trace_events.specs.declared.slack.SlackUsed.{SlackUsed}

abbrev pub is_timeline : Label → Bool
is_timeline (Label.Slack x Source.Timeline work) = true
is_timeline _ = false

abbrev pub is_reclaimed : Label → Bool
is_reclaimed (Label.Slack x (Source.Reclaimed j) work) = true
is_reclaimed _ = false

-- how many of the entries are on slack
abbrev pub slack_of : List Entry → SlackUsed
slack_of es = record {
  timeline = count_by (λ e. is_timeline e.label) es;
  reclaimed = count_by (λ e. is_reclaimed e.label) es;
}

-- the slack of these groups
abbrev pub slack_in : List LedgerLine → SlackUsed
slack_in gs = slack_of (flat_map entries_of gs)

-- a point of the counter: its value from this tick on
abbrev pub point_text : ℕ → SlackUsed → List ℕ
point_text tick used =
    codes "{\"args\":{\"reclaimed\":" ++ decimal used.reclaimed ++ codes ",\"timeline\":" ++ decimal used.timeline
    ++ codes "},\"name\":\"slack\",\"ph\":\"C\",\"pid\":1,\"ts\":" ++ decimal tick ++ codes "},\n"

abbrev pub is_as_before : SlackUsed → SlackUsed → Bool
is_as_before old new = (new.timeline == old.timeline) && (new.reclaimed == old.reclaimed)

-- It begins at the first group, if there is one, with no slack.
abbrev pub start_point : Option LedgerLine → List ℕ
start_point None = []
start_point (Some g) = point_text g.start (slack_in [])

-- at a tick at which the value was the old one up to there, a point where the new one is another
abbrev pub point_where : ℕ → SlackUsed → SlackUsed → List ℕ
point_where tick old new = if is_as_before old new then [] else point_text tick new

-- Behind a group, the slack of the groups so far, where the group changes it.
abbrev pub slack_point : List LedgerLine → LedgerLine → List ℕ
slack_point before g = point_where (g.start + g.count) (slack_in before) (slack_in (before ++ g ∷ []))
