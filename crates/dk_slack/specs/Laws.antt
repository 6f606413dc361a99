-- What the laws of the wishes and the unclaimed ticks say, of every configuration and every past.
use Rattle.std.specs.Prelude.{ℕ, Bool, true, not, filter, nat_lt, ◌≡◌, ◌≢◌, ◌+◌, ◌*◌, ◌<◌, Contains, List, [], ◌∷◌, length, MatchOption, Some, None, false}
use Rattle.dk_config.specs.Configuration.{Configuration}
use Rattle.dk_config.specs.Windows.{window_start}
use Rattle.dk_trace.specs.declared.ThreadId.{ThreadId}
use Rattle.dk_trace.specs.declared.Source.{Source}
use Rattle.dk_trace.specs.declared.Work.{Work}
use Rattle.dk_trace.specs.declared.Label.{Label}
use Rattle.dk_trace.specs.declared.Event.{Event}
use Rattle.dk_trace.specs.declared.Entry.{Entry}
use Rattle.dk_trace.specs.Entries.{borrower, thread_of}
use Rattle.dk_trace.specs.Members.{Has}
use Rattle.dk_trace.specs.Audit.{without_event}
use Rattle.dk_trace.specs.Jobs.{is_closed}
use Rattle.dk_trace.specs.Threads.{Thread, threads}
use Rattle.dk_trace.specs.Slack.{source as past_source, want as past_want, is_entering as is_past_entering, unclaimed}
use Rattle.dk_slack.specs.Slack.{Slack}
use Rattle.dk_slack.specs.Wishes.{Wish, asked, dropped, first_node, is_entering, is_of, spent, want, wishes_at}
use Rattle.dk_slack.specs.Unclaimed.{counted, source}
use Rattle.dk_slack.specs.Recount.{AreCounted, HaveOwnNodes, IsRecount, IsOldestNode, KeepsLevels, ShutsAskers, asking, claiming_level, counted_wish, spares_of, unclaimed_of}

-- A tick of slack takes a tick from its thread's wish.
abbrev pub SlackSpendsWish : Type 0
SlackSpendsWish =
    (node_of : ThreadId → ℕ) (spares : List ℕ) (c : Configuration) (past : List Entry) (t : Slack) (x : Thread)
    (source : Source) (work : Work) (j k : ℕ)
    → IsRecount node_of spares c (length past) past t → HaveOwnNodes node_of c (length past) past
    → j < length c.levels → Contains (asking c (length past) past j) x → k < length c.levels
    → AreCounted node_of c (length past) (record { label = Label.Slack x.id source work; event = None } ∷ past) k
    (wishes_at (spent (node_of x.id) t.wishes) k)

-- Any other tick changes no wish.
abbrev pub OthersKeepWishes : Type 0
OthersKeepWishes =
    (node_of : ThreadId → ℕ) (c : Configuration) (past : List Entry) (label : Label) (k : ℕ) (wishes : List Wish)
    → borrower label ≡ None → AreCounted node_of c (length past) past k wishes
    → AreCounted node_of c (length past) (record { label = label; event = None } ∷ past) k wishes

-- A tick is unclaimed at the levels that are faster than the one that claimed it.
abbrev pub TickCountsUnclaimed : Type 0
TickCountsUnclaimed =
    (c : Configuration) (past : List Entry) (e : Entry) → KeepsLevels c e past
    → counted (claiming_level (threads c (e ∷ past)) e) (unclaimed_of c (length past) past)
    ≡ unclaimed_of c (length past) (e ∷ past)

-- A call for slack puts the thread's wish last at its level.
abbrev pub AskingAddsWish : Type 0
AskingAddsWish =
    (node_of : ThreadId → ℕ) (spares : List ℕ) (c : Configuration) (past : List Entry) (t : Slack) (x : Thread)
    (label : Label) (amount k : ℕ)
    → IsRecount node_of spares c (length past) (record { label = label; event = None } ∷ past) t
    → HaveOwnNodes node_of c (length past) (record { label = label; event = Some (Event.Slack amount) } ∷ past)
    → Contains (threads c past) x → x.level < length c.levels → thread_of label ≡ Some x.id
    → is_closed c (length past) past x ≡ false → 0 < amount → k < length c.levels
    → AreCounted node_of c (length past) (record { label = label; event = Some (Event.Slack amount) } ∷ past) k
    (wishes_at
    (asked x.level (record { node = node_of x.id; amount = amount; entering = 2 * c.costs.switch }) t.wishes) k)

-- An event that shuts threads leaves the wishes of the others.
abbrev pub ShutEndsWishes : Type 0
ShutEndsWishes =
    (node_of next_of : ThreadId → ℕ) (c : Configuration) (past : List Entry) (e : Entry) (shut : Thread → Bool)
    (gone : Wish → Bool) (k : ℕ) (wishes : List Wish)
    → ShutsAskers c e past shut → AreCounted node_of c (length past) (without_event e ∷ past) k wishes
    → ((x : Thread) → Has (threads c (without_event e ∷ past)) x
    → nat_lt 0 (past_want c (length past) (without_event e ∷ past) x) ≡ true
    → gone (counted_wish node_of c (length past) (without_event e ∷ past) x) ≡ shut x)
    → ((x : Thread) → Has (threads c (without_event e ∷ past)) x
    → nat_lt 0 (past_want c (length past) (without_event e ∷ past) x) ≡ true → shut x ≡ false
    → next_of x.id ≡ node_of x.id)
    → AreCounted next_of c (length past) (e ∷ past) k (filter (λ w. not (gone w)) wishes)

-- Where a node's wish is dropped, those of the others stay.
abbrev pub DropsWishes : Type 0
DropsWishes =
    (node : ℕ) (wishes : List (List Wish)) (k : ℕ)
    → wishes_at (dropped node wishes) k ≡ filter (λ w. not (is_of node w)) (wishes_at wishes k)

-- The wishes of a level stay as long as its window goes on.
abbrev pub WishesStay : Type 0
WishesStay =
    (node_of : ThreadId → ℕ) (c : Configuration) (now : ℕ) (past : List Entry) (k : ℕ) (wishes : List Wish)
    → window_start c k (now + 1) ≡ window_start c k now → AreCounted node_of c now past k wishes
    → AreCounted node_of c (now + 1) past k wishes

-- Where a window of the level begins there are none.
abbrev pub WishesBegin : Type 0
WishesBegin =
    (node_of : ThreadId → ℕ) (c : Configuration) (past : List Entry) (k : ℕ)
    → window_start c k (length past) ≡ length past → AreCounted node_of c (length past) past k []

-- The unclaimed ticks of a level stay as long as its window goes on.
abbrev pub UnclaimedStay : Type 0
UnclaimedStay =
    (c : Configuration) (now : ℕ) (past : List Entry) (j : ℕ) → window_start c j (now + 1) ≡ window_start c j now
    → unclaimed c (now + 1) past j ≡ unclaimed c now past j

-- Where a window of the level begins there are none.
abbrev pub UnclaimedBegin : Type 0
UnclaimedBegin =
    (c : Configuration) (past : List Entry) (j : ℕ) → window_start c j (length past) ≡ length past
    → unclaimed c (length past) past j ≡ 0

-- The source of slack is the past's.
abbrev pub TellsSource : Type 0
TellsSource =
    (node_of : ThreadId → ℕ) (c : Configuration) (now : ℕ) (past : List Entry) (t : Slack)
    → IsRecount node_of (spares_of c) c now past t → source t.unclaimed t.spares ≡ past_source c now past

-- The front of a level is a thread that has asked for longest.
abbrev pub TellsFronts : Type 0
TellsFronts =
    (node_of : ThreadId → ℕ) (spares : List ℕ) (c : Configuration) (now : ℕ) (past : List Entry) (t : Slack) (k : ℕ)
    → IsRecount node_of spares c now past t → k < length c.levels
    → MatchOption (first_node k t.wishes) (asking c now past k ≡ []) (IsOldestNode node_of c now past k)

-- What a thread still asks for is the past's.
abbrev pub TellsAmounts : Type 0
TellsAmounts =
    (node_of : ThreadId → ℕ) (spares : List ℕ) (c : Configuration) (now : ℕ) (past : List Entry) (t : Slack) (k : ℕ)
    (x : Thread)
    → IsRecount node_of spares c now past t → HaveOwnNodes node_of c now past → k < length c.levels
    → Contains (asking c now past k) x → want (node_of x.id) t.wishes ≡ past_want c now past x

-- Whether its switch in is still to come is the past's.
abbrev pub TellsEntering : Type 0
TellsEntering =
    (node_of : ThreadId → ℕ) (spares : List ℕ) (c : Configuration) (now : ℕ) (past : List Entry) (t : Slack) (k : ℕ)
    (x : Thread)
    → IsRecount node_of spares c now past t → HaveOwnNodes node_of c now past → k < length c.levels
    → Contains (asking c now past k) x → is_entering (node_of x.id) t.wishes ≡ is_past_entering c now past x

-- A node for which no thread asks has no wish.
abbrev pub TellsNothing : Type 0
TellsNothing =
    (node_of : ThreadId → ℕ) (spares : List ℕ) (c : Configuration) (now : ℕ) (past : List Entry) (t : Slack) (node : ℕ)
    → IsRecount node_of spares c now past t
    → ((k : ℕ) (x : Thread) → k < length c.levels → Contains (asking c now past k) x → node ≢ node_of x.id)
    → want node t.wishes ≡ 0
