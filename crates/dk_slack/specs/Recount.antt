-- When a table of slack is the recount of a past.
use Rattle.std.specs.Prelude.{ℕ, ◌≡◌, ◌≤◌, ◌<◌, ◌↔◌, ◌-◌, ◌*◌, Bool, true, false, ◌&&◌, ◌==◌, nat_lt, All, Contains, List, [], ◌∷◌, length, map, filter, Option, Some, None}
use Rattle.std.specs.Option.{option_or, option_map_or}
use Rattle.dk_config.specs.declared.TheConstants.{MAX_THREADS}
use Rattle.dk_config.specs.Configuration.{Configuration}
use Rattle.dk_config.specs.Sums.{below}
use Rattle.dk_config.specs.Certification.{spare}
use Rattle.dk_trace.specs.declared.ThreadId.{ThreadId}
use Rattle.dk_trace.specs.declared.Entry.{Entry}
use Rattle.dk_trace.specs.Entries.{payer, kernel_level}
use Rattle.dk_trace.specs.Audit.{without_event}
use Rattle.dk_trace.specs.Members.{Has}
use Rattle.dk_trace.specs.Threads.{Thread, threads, after_entry}
use Rattle.dk_trace.specs.Slack.{request, want, level_of, unclaimed}
use Rattle.dk_slack.specs.Wishes.{Wish, wishes_at}
use Rattle.dk_slack.specs.Slack.{Slack}

-- the wish that the past gives the thread, at the thread's node
abbrev pub counted_wish : (ThreadId → ℕ) → Configuration → ℕ → List Entry → Thread → Wish
counted_wish node_of c now past x = record {
  node = node_of x.id;
  amount = want c now past x;
  entering = 2 * c.costs.switch - (request c now past x).spent;
}

-- the threads of level k that still ask for slack
abbrev pub asking : Configuration → ℕ → List Entry → ℕ → List Thread
asking c now past k = filter (λ x. (x.level == k) && nat_lt 0 (want c now past x)) (threads c past)

-- each thread has asked for longer than those after it in the list
abbrev pub AreOldestFirst : Configuration → ℕ → List Entry → List Thread → Type 0
AreOldestFirst c now past [] = Unit {0}
AreOldestFirst c now past (x ∷ xs) =
    ((y : Thread) → Contains xs y → (request c now past y).age < (request c now past x).age)
    × AreOldestFirst c now past xs

-- the wishes are those of the threads of level k that ask, in the order in which they asked
abbrev pub AreCounted : (ThreadId → ℕ) → Configuration → ℕ → List Entry → ℕ → List Wish → Type 0
AreCounted node_of c now past k wishes =
    (xs : List Thread) × ((x : Thread) → Contains xs x ↔ Contains (asking c now past k) x)
    × AreOldestFirst c now past xs
    × (wishes ≡ map (counted_wish node_of c now past) xs)

-- the ticks of each level's window that no level up to it claimed
abbrev pub unclaimed_of : Configuration → ℕ → List Entry → List ℕ
unclaimed_of c now past = map (λ j. unclaimed c now past j) (below (length c.levels))

-- The table has, of each level, the wishes and the unclaimed ticks that the past gives. The node of each thread and the
-- spare of each level are those of other tables.
pub record IsRecount (node_of : ThreadId → ℕ) (given : List ℕ) (c : Configuration) (now : ℕ) (past : List Entry)
    (t : Slack) : Type 0 where
  pub nodes : t.nodes ≡ MAX_THREADS * length c.processes
  pub switch : t.switch ≡ c.costs.switch
  pub levels : length t.wishes ≡ length c.levels
  pub wishes : (k : ℕ) → k < length c.levels → AreCounted node_of c now past k (wishes_at t.wishes k)
  pub unclaimed : t.unclaimed ≡ unclaimed_of c now past
  pub spares : t.spares ≡ given

-- the ticks of each level's window that nobody can claim
abbrev pub spares_of : Configuration → List ℕ
spares_of c = map (λ j. spare c j) (below (length c.levels))

-- the node is that of a thread of level k that asks for slack, and no thread of the level has asked for longer
abbrev pub IsOldestNode : (ThreadId → ℕ) → Configuration → ℕ → List Entry → ℕ → ℕ → Type 0
IsOldestNode node_of c now past k node =
    (x : Thread) × Contains (asking c now past k) x × (node ≡ node_of x.id)
    × All (λ y. (request c now past y).age ≤ (request c now past x).age) (asking c now past k)

-- no two threads that ask for slack share a node
abbrev pub HaveOwnNodes : (ThreadId → ℕ) → Configuration → ℕ → List Entry → Type 0
HaveOwnNodes node_of c now past =
    (j k : ℕ) (x y : Thread) → j < length c.levels → k < length c.levels → Contains (asking c now past j) x
    → Contains (asking c now past k) y
    → node_of x.id ≡ node_of y.id → x ≡ y

-- the level that claimed the tick: the one whose kernel work or whose thread on budget had it
abbrev pub claiming_level : List Thread → Entry → Option ℕ
claiming_level xs e = option_or (kernel_level e.label) (option_map_or (level_of xs) (payer e.label) None)

-- the threads that paid for a tick have the levels after the entry that they had before it
abbrev pub KeepsLevels : Configuration → Entry → List Entry → Type 0
KeepsLevels c e past =
    (d : Entry) (x : ThreadId) → Contains past d → payer d.label ≡ Some x
    → level_of (threads c (e ∷ past)) x ≡ level_of (threads c past) x

-- The event at the end of the tick shuts the threads that pass the test: each thread has its row after the entry, the others go on
-- asking as they did in the tick without it, and those ask for nothing.
pub record ShutsAskers (c : Configuration) (e : Entry) (past : List Entry) (shut : Thread → Bool) : Type 0 where
  pub rows : threads c (e ∷ past) ≡ map (after_entry e (length past)) (threads c (without_event e ∷ past))
  pub keeps : (x : Thread) → Has (threads c (without_event e ∷ past)) x → shut x ≡ false
      → request c (length past) (e ∷ past) (after_entry e (length past) x)
      ≡ request c (length past) (without_event e ∷ past) x
  pub ends : (x : Thread) → Has (threads c (without_event e ∷ past)) x → shut x ≡ true
      → want c (length past) (e ∷ past) (after_entry e (length past) x) ≡ 0
