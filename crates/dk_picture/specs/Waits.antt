-- Who kept a main waiting in a window: a thread of a slower level that held a mutex meanwhile.
use Rattle.std.specs.Prelude.{ℕ, ◌+◌, ◌-◌, ◌++◌, ◌&&◌, [], Bool, List, Option, Some, None, codes, decimal, flat_map, if◌then◌else◌, max, min, nat_le, nat_lt}
use Rattle.std.specs.List.{list_any}
use Rattle.std.specs.Option.{option_map_or}
use Rattle.dk_trace.specs.declared.ThreadId.{ThreadId}
use Rattle.dk_trace.specs.Entries.{is_same, thread_of}
use Rattle.dk_ledger.specs.declared.line.LedgerLine.{LedgerLine}
use Rattle.dk_ledger.specs.Heading.{Heading}
use Rattle.dk_ledger.specs.LineText.{thread_text}
use Rattle.dk_hold_spans.specs.declared.hold.Hold.{Hold}
use Rattle.dk_picture.specs.declared.frame.Frame.{Frame}
use Rattle.dk_picture.specs.declared.rows.Row.TheVariants as row
use Rattle.dk_picture.specs.declared.shares.Share.{Share}
use Rattle.dk_picture.specs.declared.span.Span.{Span}
use Rattle.dk_picture.specs.declared.waits.Wait.{Wait}
use Rattle.dk_picture.specs.Elements.{titled_rect}
use Rattle.dk_picture.specs.Frames.{top_of}
use Rattle.dk_picture.specs.HoldBars.{hold_class}
use Rattle.dk_picture.specs.Places.{place_of}
use Rattle.dk_picture.specs.Rows.{level_of}
use Rattle.dk_picture.specs.Scenes.{Scene}
use Rattle.dk_picture.specs.Terms.{terms_of}

abbrev pub main_of : ℕ → ThreadId
main_of p = record { process = p; serial = 0 }

-- the level of a thread's windows
abbrev pub thread_level : Heading → List LedgerLine → ThreadId → ℕ
thread_level h ms x = option_map_or (λ t. t.level) (terms_of h ms (row.Thread x)) 0

abbrev pub holds_at : ThreadId → ℕ → Hold → Bool
holds_at x t d = is_same x d.thread && (nat_le d.start t && nat_lt t d.end)

-- whether the thread comes before a main of level j by a hold alone
abbrev pub is_in_front : Heading → Scene → ℕ → Wait → Bool
is_in_front h c j w = nat_lt j (thread_level h c.makings w.holder) && list_any (holds_at w.holder w.start) c.holds

-- the part of a group in the window before the main is done, and whose ticks they are
abbrev pub wait_in : Share → LedgerLine → ThreadId → Wait
wait_in d g x = record { start = max g.start d.first; end = min (g.start + g.count) d.done; holder = x }

-- the first tick, the ticks, the main and the holder
unfoldable pub wait_words : ℕ → ℕ → List ℕ → List ℕ → List ℕ
wait_words start count main holder = decimal start ++ (codes " " ++ (decimal count ++ (codes " "
    ++ (main ++ (codes " waits for " ++ holder)))))

-- on the line of the window, in the colour of holds, and never so narrow that it isn't seen
abbrev pub wait_rect : Heading → Frame → Span → Share → Wait → List ℕ
wait_rect h f s d w = titled_rect hold_class
    (record { x = place_of s w.start; y = top_of f d.row + 8; width = max (place_of s w.end - place_of s w.start) 1; height = 4 })
    (wait_words w.start (w.end - w.start) (thread_text h (main_of d.process)) (thread_text h w.holder))

abbrev pub wait_of : Heading → Frame → Span → Scene → Share → Wait → List ℕ
wait_of h f s c d w =
    if nat_lt w.start w.end && is_in_front h c (level_of h d.process) w then wait_rect h f s d w else []

abbrev pub owner_wait : Heading → Frame → Span → Scene → Share → LedgerLine → Option ThreadId → List ℕ
owner_wait h f s c d g None = []
owner_wait h f s c d g (Some x) = wait_of h f s c d (wait_in d g x)

abbrev pub wait_text : Heading → Frame → Span → Scene → Share → LedgerLine → List ℕ
wait_text h f s c d g = owner_wait h f s c d g (thread_of g.label)

-- of all groups
abbrev pub waits_text : Heading → Frame → Span → Scene → Share → List ℕ
waits_text h f s c d = flat_map (wait_text h f s c d) c.groups
