-- The state of a run at a tick, as text.
use Rattle.std.specs.Prelude.{ℕ, ◌-◌, Bool, not, ◌&&◌, ◌||◌, nat_lt, if◌then◌else◌, List, ◌++◌, length, filter, flat_map, codes, decimal, Option, Some, None, is_some}
use Rattle.dk_config.specs.Configuration.{Configuration}
use Rattle.dk_config.specs.Sums.{below}
use Rattle.dk_config.specs.Windows.{process_name, window_end}
use Rattle.dk_trace.specs.declared.ThreadId.{ThreadId}
use Rattle.dk_trace.specs.declared.Entry.{Entry}
use Rattle.dk_trace.specs.Threads.{Thread, threads, is_main, is_void, is_ended_by}
use Rattle.dk_trace.specs.Demand.{own_demand, remaining_demand}
use Rattle.dk_trace.specs.Holds.{blocking}
use Rattle.dk_trace.specs.Choices.{denied}
use Rattle.dk_cpu.specs.declared.Context.{Context}
use Rattle.dk_world.specs.Run.{World, world}
use Rattle.dk_ledger.specs.Heading.{ended}

abbrev pub level_body : ℕ → ℕ → ℕ → ℕ → ℕ → List ℕ
level_body j own remaining blocking left =
    codes "level " ++ decimal j ++ codes " own " ++ decimal own ++ codes " remaining " ++ decimal remaining
    ++ codes " blocking " ++ decimal blocking ++ codes " left " ++ decimal left

-- what level j still needs, how long slower holders can keep it waiting, and the ticks of its window that are left
unfoldable pub level_line : Configuration → ℕ → List Entry → ℕ → List ℕ
level_line c n past j =
    ended (level_body j (own_demand c n past j) (remaining_demand c n past j) (blocking c past j)
    (window_end c j n - n))

abbrev pub denied_body : Option ℕ → List ℕ
denied_body None = codes "denied none"
denied_body (Some j) = codes "denied " ++ decimal j

-- a main, or a child that is neither ended nor void
abbrev pub is_shown : Configuration → ℕ → Thread → Bool
is_shown c n x = is_main x || (not (is_void x) && not (is_ended_by c n x))

abbrev pub state_word : ℕ → Thread → List ℕ
state_word n x =
    if is_some x.stop then codes "stopped"
    else if nat_lt n x.start then codes "starting"
    else codes "live"

-- registers, each after a space
abbrev pub registers : List ℕ → List ℕ
registers regs = flat_map (λ r. codes " " ++ decimal r) regs

abbrev pub thread_body : List ℕ → ℕ → List ℕ → Context → List ℕ
thread_body name serial state context =
    codes "thread " ++ name ++ codes "." ++ decimal serial ++ codes " " ++ state ++ codes " pc " ++ decimal context.pc
    ++ codes " left " ++ decimal context.left ++ codes " regs" ++ registers context.regs

-- the context of a thread
abbrev pub context_of : World → ThreadId → Context
context_of w x = (w.images x.process).contexts x.serial

unfoldable pub thread_line : Configuration → ℕ → World → Thread → List ℕ
thread_line c n w x = ended (thread_body (process_name c x.id.process) x.id.serial (state_word n x) (context_of w x.id))

-- the threads that are shown, by process and then serial
unfoldable pub shown : Configuration → ℕ → List Entry → List Thread
shown c n past = filter (is_shown c n) (threads c past)

-- the text of a world after n ticks
unfoldable pub view_of : Configuration → ℕ → World → List ℕ
view_of c n w =
    ended (codes "tick " ++ decimal n)
    ++ (flat_map (level_line c n w.past) (below (length c.levels))
    ++ (ended (denied_body (denied c w.past))
    ++ (flat_map (thread_line c n w) (shown c n w.past)
    ++ ended (codes "end " ++ decimal n))))

-- the state after n ticks of a configuration with its programs
abbrev pub view : Configuration → List (List ℕ) → ℕ → List ℕ
view c programs n = view_of c n (world c programs n)
