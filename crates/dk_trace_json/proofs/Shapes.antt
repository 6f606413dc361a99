-- The events, as they are written, are read as those of the definitions.
use Rattle.std.proofs.Common.{ℕ, ◌≡◌, ◌<◌, ◌≤◌, ◌^◌, List, [], ◌∷◌, refl, arith, codes}
use Rattle.std.specs.Prelude.{Some, decimal}
use Rattle.json.specs.Json.{Json, number, string, object, Members, no_members, member}
use Rattle.json.specs.Tree.{depth}
use Rattle.serde_json.specs.Data as values
use Rattle.serde_json.specs.Read.{of_json}
use Rattle.dk_trace_events.proofs.Safe.{Safe}
use Rattle.dk_trace_json.specs.Events.{argument, count, counter_event, instant_event, made, marked_event, process_event, slice_event, thread_event}
use Rattle.dk_trace_json.proofs.Plain.{IsPlain}
use Rattle.dk_trace_json.proofs.Reading.{IsCount, IsEvent, counted}

-- arguments that are read as this value
pub record AreArgs (j : Json) (d : values.Data) : Type 0 where
  pub plain : IsPlain j
  pub value : of_json j ≡ Some d
  pub shallow : depth j ≤ 1

abbrev pub one_member : List ℕ → Json → Json
one_member key j = object (member key j no_members)

pub text_args : (key s : List ℕ) → Safe key → Safe s → AreArgs (one_member key (string s)) (argument key (values.string s))
text_args key s own safe = record { plain = (own, safe, tt); value = refl; shallow = omega arith }

pub count_args : (key s : List ℕ) (n : ℕ) → Safe key → IsCount s n → AreArgs (one_member key (number s)) (argument key (count n))
count_args key s n own is = record { plain = (own, is.plain, tt); value = rw is.value; shallow = omega arith }

-- the numbers of a track
pub record IsPlace (pid tid : ℕ) : Type 0 where
  pub process : IsCount (decimal pid) pid
  pub thread : IsCount (decimal tid) tid

pub placed : (pid tid : ℕ) → pid < 2 ^ 64 → tid < 2 ^ 64 → IsPlace pid tid
placed pid tid few small = record { process = counted pid few; thread = counted tid small }

-- ---- the events as they are written, by their arguments

abbrev pub process_json : Json → List ℕ → List ℕ → Members
process_json args name pid =
    member (codes "args") args (member (codes "name") (string name) (member (codes "ph") (string (codes "M")) (member (codes "pid") (number pid) no_members)))

abbrev pub thread_json : Json → List ℕ → List ℕ → List ℕ → Members
thread_json args name pid tid =
    member (codes "args") args (member (codes "name") (string name) (member (codes "ph") (string (codes "M")) (member (codes "pid") (number pid) (member (codes "tid") (number tid) no_members))))

abbrev pub slice_json : Json → List ℕ → ℕ → List ℕ → ℕ → ℕ → ℕ → Members
slice_json args cat dur name pid tid ts =
    member (codes "args") args (member (codes "cat") (string cat) (member (codes "dur") (number (decimal dur)) (member (codes "name") (string name) (member (codes "ph") (string (codes "X"))
    (member (codes "pid") (number (decimal pid)) (member (codes "tid") (number (decimal tid)) (member (codes "ts") (number (decimal ts)) no_members)))))))

abbrev pub counter_json : Json → List ℕ → List ℕ → ℕ → Members
counter_json args name pid ts =
    member (codes "args") args (member (codes "name") (string name) (member (codes "ph") (string (codes "C")) (member (codes "pid") (number pid) (member (codes "ts") (number (decimal ts)) no_members))))

module _ (args : Json) (value : values.Data) (are : AreArgs args value) where
  pub process_is : (name pid : List ℕ) (p : ℕ) → Safe name → IsCount pid p → IsEvent (process_json args name pid) (process_event name value p)
  process_is name pid p safe count = record {
    plain = (refl, are.plain, (refl, safe, (refl, refl, (refl, count.plain, tt))));
    value = rw (are.value, count.value);
    shallow = let own = are.shallow in omega (arith, own);
  }

  pub thread_is : (name pid tid : List ℕ) (p t : ℕ) → Safe name → IsCount pid p → IsCount tid t → IsEvent (thread_json args name pid tid) (thread_event name value p t)
  thread_is name pid tid p t safe process thread = record {
    plain = (refl, are.plain, (refl, safe, (refl, refl, (refl, process.plain, (refl, thread.plain, tt)))));
    value = rw (are.value, process.value, thread.value);
    shallow = let own = are.shallow in omega (arith, own);
  }

  pub slice_is : (cat : List ℕ) (dur : ℕ) (name : List ℕ) (pid tid ts : ℕ) → Safe cat → Safe name → IsPlace pid tid → dur < 2 ^ 64 → ts < 2 ^ 64
      → IsEvent (slice_json args cat dur name pid tid ts) (slice_event value cat dur name pid tid ts)
  slice_is cat dur name pid tid ts safe own is few small =
      let process = is.process in
      let thread = is.thread in
      let ticks = counted dur few in
      let first = counted ts small in
      record {
        plain = (refl, are.plain, (refl, safe, (refl, ticks.plain, (refl, own, (refl, refl, (refl, process.plain, (refl, thread.plain, (refl, first.plain, tt))))))));
        value = rw (are.value, ticks.value, process.value, thread.value, first.value);
        shallow = let inside = are.shallow in omega (arith, inside);
      }

  pub counter_is : (name pid : List ℕ) (ts : ℕ) → Safe name → IsCount pid 1 → ts < 2 ^ 64 → IsEvent (counter_json args name pid ts) (counter_event value name ts)
  counter_is name pid ts safe count small =
      let first = counted ts small in
      record {
        plain = (refl, are.plain, (refl, safe, (refl, refl, (refl, count.plain, (refl, first.plain, tt)))));
        value = rw (are.value, count.value, first.value);
        shallow = let own = are.shallow in omega (arith, own);
      }

-- an instant says at its track's process how far it reaches
abbrev pub instant_json : List ℕ → List ℕ → ℕ → ℕ → ℕ → Members
instant_json cat name pid tid ts =
    member (codes "cat") (string cat) (member (codes "name") (string name) (member (codes "ph") (string (codes "i")) (member (codes "s") (string (codes "t"))
    (member (codes "pid") (number (decimal pid)) (member (codes "tid") (number (decimal tid)) (member (codes "ts") (number (decimal ts)) no_members))))))

pub instant_is : (cat name : List ℕ) (pid tid ts : ℕ) → Safe cat → Safe name → IsPlace pid tid → ts < 2 ^ 64 → IsEvent (instant_json cat name pid tid ts) (instant_event cat name pid tid ts)
instant_is cat name pid tid ts safe own is small =
    let process = is.process in
    let thread = is.thread in
    let first = counted ts small in
    record {
      plain = (refl, safe, (refl, own, (refl, refl, (refl, refl, (refl, process.plain, (refl, thread.plain, (refl, first.plain, tt)))))));
      value = rw (process.value, thread.value, first.value);
      shallow = omega arith;
    }

-- with arguments
abbrev pub marked_json : Json → List ℕ → List ℕ → ℕ → ℕ → ℕ → Members
marked_json args cat name pid tid ts = member (codes "args") args (instant_json cat name pid tid ts)

pub marked_is : (args : Json) (value : values.Data) → AreArgs args value → (cat name : List ℕ) (pid tid ts : ℕ) → Safe cat → Safe name → IsPlace pid tid → ts < 2 ^ 64
    → IsEvent (marked_json args cat name pid tid ts) (marked_event value cat name pid tid ts)
marked_is args value are cat name pid tid ts safe own is small =
    let process = is.process in
    let thread = is.thread in
    let first = counted ts small in
    record {
      plain = (refl, are.plain, (refl, safe, (refl, own, (refl, refl, (refl, refl, (refl, process.plain, (refl, thread.plain, (refl, first.plain, tt))))))));
      value = rw (are.value, process.value, thread.value, first.value);
      shallow = let inside = are.shallow in omega (arith, inside);
    }

pub slack_args : (a b : ℕ) → a < 2 ^ 64 → b < 2 ^ 64
    → AreArgs (object (member (codes "reclaimed") (number (decimal a)) (member (codes "timeline") (number (decimal b)) no_members))) (made ((codes "reclaimed", count a) ∷ (codes "timeline", count b) ∷ []))
slack_args a b few small =
    let one = counted a few in
    let other = counted b small in
    record { plain = (refl, one.plain, (refl, other.plain, tt)); value = rw (one.value, other.value); shallow = omega arith }
