-- How an entry is judged by the dispatcher, and booked.
use Rattle.std.specs.Prelude.{◌≡◌, Bool, true, false, List, ◌∷◌, Option, Some, None, MatchOption}
use Rattle.dk_config.specs.Configuration.{Configuration}
use Rattle.dk_isa.specs.declared.FaultKind.{FaultKind}
use Rattle.dk_trace.specs.declared.ThreadId.{ThreadId}
use Rattle.dk_trace.specs.declared.Event.{Event}
use Rattle.dk_trace.specs.declared.Entry.{Entry}
use Rattle.dk_trace.specs.Entries.{thread_of}
use Rattle.dk_trace.specs.Holds.{Hold, held_by, ends_hold, innermost_left}
use Rattle.dk_trace.specs.Audit.{Audited, Follows, HasChosenLabel, MayHave, work_of}
use Rattle.dk_recount.specs.Recount.{IsRuled}
use Rattle.dk_past.specs.Past.{Past, Charged, Ready, choice_at}
use Rattle.dk_dispatch.specs.Standing.{Dispatched}
use Rattle.dk_dispatch.specs.Ticks.{IsWhole}
use Rattle.dk_audit.specs.declared.finding.Breach.{Breach}
use Rattle.dk_audit.specs.declared.finding.Breach.TheVariants as breach

-- a hold faults in its last tick alone, and its last tick ends it
pub record KeepsHold (c : Configuration) (held : List Hold) (event : Option Event) : Type 0 where
  pub fault : event ≡ Some (Event.Fault FaultKind.Hold) → innermost_left c held ≡ 1
  pub last : innermost_left c held ≡ 1 → ends_hold event held ≡ true

-- What the rules ask of an entry beside its label, and beside what its event's call asks.
pub record Obeys (c : Configuration) (past : List Entry) (e : Entry) : Type 0 where
  pub work : MayHave (work_of e.label) e.event
  pub hold : MatchOption (thread_of e.label) (Unit {0}) (λ x. KeepsHold c (held_by x past) e.event)

-- the tick is charged, and its entry obeys the rules so far
pub record IsOpen (e : Entry) (p : Past) : Type 0 where
  pub charged : p.tick ≡ Charged
  pub ruled : IsRuled p.config p.entries
  pub chose : HasChosenLabel (choice_at p) e.label
  pub obeys : Obeys p.config p.entries e

-- and has this event, of this thread
pub record IsEventOpen (x : ThreadId) (event : Event) (e : Entry) (p : Past) : Type 0 where
  pub open_tick : IsOpen e p
  pub own : thread_of e.label ≡ Some x
  pub ends : e.event ≡ Some event

-- the entry of the open tick follows the rules, and stands whole
pub record Books (e : Entry) (old new : Past) : Type 0 where
  pub whole : IsWhole e new
  pub config : new.config ≡ old.config
  pub entries : new.entries ≡ old.entries

-- where it is booked, the entry follows the rules, and stands whole; and else it doesn't follow them
abbrev pub IsBookedIf : Bool → Entry → Past → Past → Type 0
IsBookedIf true e old new = Books e old new
IsBookedIf false e old new = ¬ Follows old.config old.entries e

-- before the next tick, after these entries
abbrev pub ready_past : Configuration → List Entry → Past
ready_past c past = record { config = c; entries = past; tick = Ready }

-- what an entry breaks first, or the past of the next tick
abbrev pub IsJudged : Entry → Past → Option Breach → Past → Type 0
IsJudged e old None new = Follows old.config old.entries e × (new ≡ ready_past old.config (e ∷ old.entries))
IsJudged e old (Some breach.Label) new = ¬ HasChosenLabel (choice_at old) e.label
IsJudged e old (Some breach.Event) new = HasChosenLabel (choice_at old) e.label × ¬ Follows old.config old.entries e

-- the dispatcher is before the next tick, after these entries, which follow the rules
pub record IsAfter (c : Configuration) (past : List Entry) (d : Dispatched) : Type 0 where
  pub is : d.past ≡ ready_past c past
  pub audited : Audited c past
