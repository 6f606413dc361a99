-- Each tick goes where there is something left: what the laws on single threads need of the choices.
use Rattle.dk_trace.proofs.Names.{ℕ, ◌<◌, ◌≡◌, true, List, [], ◌∷◌, length, Configuration, Choice, Entry, Thread, threads, thread_rem, kernel_rem, is_wishing, chosen, on_budget, on_slack, Has}

-- a choice of work that is there, or of a thread that wishes for slack
pub data Fair (c : Configuration) (past : List Entry) : Choice → Type 0 where
  kernel_works : (k : ℕ) → 0 < kernel_rem c (length past) past k → Fair c past (Choice.Kernel k)
  thread_works : (x : Thread) → Has (threads c past) x → 0 < thread_rem c (length past) past x → Fair c past (on_budget c past x)
  thread_borrows : (k : ℕ) (x : Thread) → Has (threads c past) x → is_wishing c (length past) past k x ≡ true → Fair c past (on_slack c past x)
  nobody : Fair c past Choice.Idle

-- every choice of the list was fair
abbrev pub AllFair : Configuration → List Entry → Type 0
AllFair c [] = Unit {0}
AllFair c (e ∷ past) = AllFair c past × Fair c past (chosen c past)
