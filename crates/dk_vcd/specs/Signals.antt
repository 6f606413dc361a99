-- The signals of a dump: what each is called, and which one tells the ticks of a label.
use Rattle.std.specs.Prelude.{ℕ, ◌==◌, ◌++◌, Bool, true, false, List, codes, decimal, if◌then◌else◌}
use Rattle.dk_trace.specs.declared.ThreadId.{ThreadId}
use Rattle.dk_trace.specs.declared.Label.{Label}
use Rattle.dk_vcd.specs.declared.signals.Signal.{Signal}

abbrev pub code : Signal → List ℕ
code Signal.Line = codes "L"
code Signal.Kernel = codes "K"
code Signal.Idle = codes "I"
code Signal.Overran = codes "O"
code (Signal.Main p) = codes "P" ++ decimal p
code (Signal.Children p) = codes "C" ++ decimal p
code (Signal.Event p) = codes "E" ++ decimal p
code (Signal.Mutex m) = codes "M" ++ decimal m

-- A main has a signal, and the children of a process have one together.
abbrev pub row_of_thread : ThreadId → Signal
row_of_thread x = if x.serial == 0 then Signal.Main x.process else Signal.Children x.process

abbrev pub row_of : Label → Signal
row_of (Label.Kernel j) = Signal.Kernel
row_of (Label.In x) = row_of_thread x
row_of (Label.Run x) = row_of_thread x
row_of (Label.Call x) = row_of_thread x
row_of (Label.Out x) = row_of_thread x
row_of (Label.Slack x source work) = row_of_thread x
row_of Label.Idle = Signal.Idle

-- of two signals that tell ticks
abbrev pub same_row : Signal → Signal → Bool
same_row Signal.Kernel Signal.Kernel = true
same_row Signal.Idle Signal.Idle = true
same_row (Signal.Main p) (Signal.Main q) = p == q
same_row (Signal.Children p) (Signal.Children q) = p == q
same_row _ _ = false

-- a change by which the signal has no value
abbrev pub emptied : Signal → List ℕ
emptied s = codes "\ns " ++ code s
