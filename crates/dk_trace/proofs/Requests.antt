-- A thread's last request for slack, and what it still wants, as entries come that have no event of its own.
use Rattle.dk_trace.proofs.Names.{◌+◌, arith, true, ◌||◌, ◌∙◌, take, ◌&&◌, ◌-◌, Bool, suc, ap, cond, length, false, ◌≡◌, refl, ◌≤◌, List, ◌∷◌, ◌<◌, subst, ℕ, zero, nat_lt, nat_le, list_any, option_map_or, window_start, period, Configuration, Entry, want, no_request, Request, last_request, request, asked, does, quiet, is_of, is_wait, is_slack_of, Thread, Label, ThreadId, nat_tests}
use Rattle.std.proofs.Common.{None}
use Rattle.dk_trace.specs.Slack.{aged}

-- an entry without an event raises nobody's wish
pub quiet-want : (c : Configuration) (label : Label) (past : List Entry) (x : Thread) → want c (length past) (quiet label ∷ past) x ≤ want c (length past) past x
quiet-want c label past x =
    let n = length past in
    let w = window_start c x.level n in
    let began : w ≤ n = omega arith in
    let longer : length (quiet label ∷ past) - w ≡ suc (n - w) = omega arith in
    let es = take (n - w) past in
    let stopped = option_map_or (λ stop. nat_le w stop && nat_lt stop (w + period c x.level)) x.stop false in
    let is : request c n (quiet label ∷ past) x ≡ cond (list_any (does is_wait x.id) es || stopped) no_request (aged (is_slack_of x.id (quiet label)) (last_request x.id es)) =
    ap (λ m. cond (list_any (does is_wait x.id) (take m (quiet label ∷ past)) || stopped) no_request (last_request x.id (take m (quiet label ∷ past)))) longer
    ∙ asks (is_of x.id (quiet label)) (list_any (does is_wait x.id) es) stopped (aged (is_slack_of x.id (quiet label)) (last_request x.id es)) in
    lower (list_any (does is_wait x.id) es || stopped) (is_slack_of x.id (quiet label)) (last_request x.id es) (request c n (quiet label ∷ past) x) is
  where
    asks : (b l s : Bool) (r : Request)
        → cond (((b && false) || l) || s) no_request (option_map_or (λ n. record { amount = n; spent = 0; age = 0 }) (cond b None None) r) ≡ cond (l || s) no_request r
    asks true l s r = refl
    asks false l s r = refl

    lower : (b s : Bool) (r q : Request) → q ≡ cond b no_request (aged s r) → q.amount - q.spent ≤ (cond b no_request r).amount - (cond b no_request r).spent
    lower true s r q is = let e = ap (λ (r : Request). r.amount - r.spent) is in omega (arith, e)
    lower false true r q is = let e = ap (λ (r : Request). r.amount - r.spent) is in omega (arith, e)
    lower false false r q is = let e = ap (λ (r : Request). r.amount - r.spent) is in omega (arith, e)

charged-request : (x : ThreadId) (label : Label) (es : List Entry) → last_request x (quiet label ∷ es) ≡ aged (is_slack_of x (quiet label)) (last_request x es)
charged-request x label es = grind (arith, nat_tests)

less-left : (b : Bool) (r : Request) → 0 < (aged b r).amount - (aged b r).spent → 0 < r.amount - r.spent
less-left b r h = grind (arith, nat_tests)

pub request-left : (x : ThreadId) (label : Label) (past : List Entry) (ws n : ℕ) → n ≡ suc (length past) - ws
    → 0 < (last_request x (take n (quiet label ∷ past))).amount - (last_request x (take n (quiet label ∷ past))).spent
    → 0 < (last_request x (take (length past - ws) past)).amount - (last_request x (take (length past - ws) past)).spent
request-left x label past ws zero at some = let none : 0 < 0 - 0 = some in absurd (omega (arith, none))
request-left x label past ws (suc m) at some =
    let e : m ≡ length past - ws = omega (arith, at) in
    subst (λ k. 0 < (last_request x (take k past)).amount - (last_request x (take k past)).spent) e
    (less-left (is_slack_of x (quiet label)) (last_request x (take m past))
    (subst (λ (r : Request). 0 < r.amount - r.spent) (charged-request x label (take m past)) some))

-- the request of a window whose last entry has an event that asks for nothing
pub request-window : (x : ThreadId) (n : ℕ) (e : Entry) (past : List Entry) → asked e.event ≡ None
    → last_request x (take n (e ∷ past)) ≡ last_request x (take n (quiet e.label ∷ past))
request-window x n e past none = grind (arith, nat_tests)
