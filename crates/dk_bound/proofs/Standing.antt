-- Threads that ask for slack are neither void nor ended; and who holds is known.
use Rattle.dk_bound.proofs.Names.{ℕ, ◌≡◌, ◌<◌, inl, inr, true, List, [], ◌∷◌, length, refl, subst, arith, Option, Some, cases_lt, Configuration, window_start, is_user, IsChecked, Entry, Has, Thread, thread_rem, Hold, held_by, want, Audited, Always, ThreadsPlaced, IsThere, AskersThere, HoldersKnown, threads-fit, row-of, window_end-above, gone-quiet, want-gone, want-closed, closed-stopped, Reason, kernel_first, thread_first, slack_first, nothing, Turn, by_hold, by_share, chosen-reason, wishing-none, wish-wants, Choice, chosen, is_wishing, ChoiceHolds, ChosenHolds, nat_tests}
use Rattle.dk_bound.proofs.Fits.{steady-fair}
use Rattle.dk_bound.proofs.Joint.{holders-fit, steady}
use Rattle.dk_bound.proofs.Holding.{Users, HoldersFit}
use Rattle.dk_bound.proofs.HoldersFit.{holder-rem}

pub threads_placed : Always ThreadsPlaced
threads_placed c past checked accepted audited x among =
    let fit = threads-fit c past checked audited in
    let row = row-of c x.id.process past x checked (fit.rows x among).known audited (fit.place x among) in
    record { among = fit.place x among; process = (fit.rows x among).known; level = row.known; above = row.above }

there-by : (c : Configuration) (n : ℕ) (x : Thread) (stop : Option ℕ) → x.stop ≡ stop → ((t : ℕ) → stop ≡ Some t → ⊥) → IsThere c n x
there-by c n x stop is runs = grind (arith, nat_tests)

pub askers_there : Always AskersThere
askers_there c past checked accepted audited x among some =
    let n = length past in
    let p = x.id.process in
    let fit = threads-fit c past checked audited in
    let here = (fit.rows x among).known in
    let place = fit.place x among in
    let fair = steady-fair c past (steady c past checked accepted audited) in
    let row = row-of c p past x checked here audited place in
    there-by c n x x.stop refl (λ t is.
    elim (cases_lt t (window_start c x.level n)) [
      | inl before ↦
          let none = want-gone c n past x (gone-quiet c p past x t checked here fair audited place is before) in
          omega arith
      | inr within ↦
          let old = row.stopped t is in
          let above = window_end-above c x.level n row.positive in
          let none = want-closed c n past x (closed-stopped c n past x t is within (omega arith)) in
          omega arith
    ])

users-has : (c : Configuration) (p : ℕ) (held : List Hold) (h : Hold) → Users c p held → Has held h → is_user c h.mutex p ≡ true
users-has c p [] h users has = absurd has
users-has c p (k ∷ held) h users (inl is) = subst (λ (z : Hold). is_user c z.mutex p ≡ true) is users.0
users-has c p (k ∷ held) h users (inr has) = users-has c p held h users.1 has

pub holders_known : Always HoldersKnown
holders_known c past checked accepted audited x holding =
    let h = (holders-fit c past checked accepted audited).holder x holding in
    record { thread = h.row; among = h.among; name = h.same; users = λ k has. users-has c x.process (held_by x past) k h.users has }

wish-parts : (c : Configuration) (past : List Entry) (k : ℕ) (x : Thread) → is_wishing c (length past) past k x ≡ true → (thread_rem c (length past) past x ≡ 0) × (0 < want c (length past) past x)
wish-parts c past k x wishes = (wishing-none c past k x wishes, wish-wants c (length past) past k x wishes)

choice-holds : (c : Configuration) (past : List Entry) (choice : Choice) → IsChecked c → Audited c past → HoldersFit c (length past) past → Reason c past choice → ChoiceHolds c past choice
choice-holds c past _ checked audited inv (kernel_first k known passed left) = (known, left)
choice-holds c past _ checked audited inv (thread_first k y known passed has turn) =
    record { thread = y; among = has; name = refl; rem = at turn }
  where
    at : Turn c past k y → 0 < thread_rem c (length past) past y
    at (by_hold holding level) = holder-rem c (length past) past y (threads-fit c past checked audited) inv has holding
    at (by_share nobody first level some) = some
choice-holds c past _ checked audited inv (slack_first k y known passed has wishes fitting) =
    let parts = wish-parts c past k y wishes in
    record { thread = y; among = has; name = refl; rem = parts.0; wants = parts.1 }
choice-holds c past _ checked audited inv (nothing passed) = tt

pub chosen_holds : Always ChosenHolds
chosen_holds c past checked accepted audited = choice-holds c past (chosen c past) checked audited (holders-fit c past checked accepted audited) (chosen-reason c past)
