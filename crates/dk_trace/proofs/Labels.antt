-- What a label says of its choice.
use Rattle.dk_trace.proofs.Names.{ℕ, ◌≡◌, inl, inr, true, false, eqb, refl, arith, Some, None, nat_tests, ThreadId, Phase, Source, Work, Label, Choice, Entry, payer, kernel_level, is_kernel_at, borrower, thread_of, label_of, HasChosenLabel}
use Rattle.std.proofs.Common.{Option}
use Rattle.dk_trace.proofs.Windows.{spent}
use Rattle.dk_trace.proofs.Starts.{kernel_paid}
use Rattle.dk_trace.proofs.Same.{same-self}

pub budget-labels : (x : ThreadId) (phase : Phase) (work : Work)
    → (payer (label_of (Choice.Budget x phase) work) ≡ Some x) × (borrower (label_of (Choice.Budget x phase) work) ≡ None) × (kernel_level (label_of (Choice.Budget x phase) work) ≡ None)
budget-labels x phase work = grind (arith, nat_tests)

pub slack-labels : (x : ThreadId) (source : Source) (phase : Phase) (work : Work)
    → (payer (label_of (Choice.Slack x source phase) work) ≡ None) × (borrower (label_of (Choice.Slack x source phase) work) ≡ Some x) × (kernel_level (label_of (Choice.Slack x source phase) work) ≡ None)
slack-labels x source phase work = grind (arith, nat_tests)

-- a label says what its choice says, whatever the thread does
pub chosen-says : {X : Type 0} (f : Label → X) (choice : Choice) (label : Label) (x : X) → HasChosenLabel choice label
    → ((work : Work) → f (label_of choice work) ≡ x) → f label ≡ x
chosen-says f choice label x is same = grind (arith, nat_tests)

pub spent-payer : (x : ThreadId) (e : Entry) → payer e.label ≡ Some x → spent x e ≡ 1
spent-payer x e is = rw (is, same-self x) refl

pub kernel_paid-level : (k : ℕ) (e : Entry) → kernel_level e.label ≡ Some k → kernel_paid k e ≡ 1
kernel_paid-level k e is = let s : eqb k k ≡ true = grind (arith, nat_tests) in rw (is, s) refl

pub kernel-none : (i : ℕ) (e : Entry) → kernel_level e.label ≡ None → is_kernel_at i e ≡ true → ⊥
kernel-none i e is h = let f : false ≡ true = rw is at h in absurd (cc)

pub record Says (label : Label) (level : Option ℕ) (payer_is borrower_is thread_is : Option ThreadId) : Type 0 where
  pub kernel : kernel_level label ≡ level
  pub pays : payer label ≡ payer_is
  pub borrows : borrower label ≡ borrower_is
  pub has : thread_of label ≡ thread_is

paid : (x : ThreadId) (part : Phase) (work : Work) → Says (label_of (Choice.Budget x part) work) None (Some x) None (Some x)
paid x Phase.In work = record { kernel = refl; pays = refl; borrows = refl; has = refl }
paid x Phase.Body Work.Call = record { kernel = refl; pays = refl; borrows = refl; has = refl }
paid x Phase.Body Work.Run = record { kernel = refl; pays = refl; borrows = refl; has = refl }
paid x Phase.Body Work.In = record { kernel = refl; pays = refl; borrows = refl; has = refl }
paid x Phase.Out work = record { kernel = refl; pays = refl; borrows = refl; has = refl }

lent : (x : ThreadId) (from : Source) (part : Phase) (work : Work) → Says (label_of (Choice.Slack x from part) work) None None (Some x) (Some x)
lent x from Phase.In work = record { kernel = refl; pays = refl; borrows = refl; has = refl }
lent x from Phase.Body work = record { kernel = refl; pays = refl; borrows = refl; has = refl }
lent x from Phase.Out work = record { kernel = refl; pays = refl; borrows = refl; has = refl }

pub budget-says : (x : ThreadId) (part : Phase) (label : Label) → HasChosenLabel (Choice.Budget x part) label → Says label None (Some x) None (Some x)
budget-says x part label chose = record {
  kernel = chosen-says kernel_level (Choice.Budget x part) label None chose (λ w. (paid x part w).kernel);
  pays = chosen-says payer (Choice.Budget x part) label (Some x) chose (λ w. (paid x part w).pays);
  borrows = chosen-says borrower (Choice.Budget x part) label None chose (λ w. (paid x part w).borrows);
  has = chosen-says thread_of (Choice.Budget x part) label (Some x) chose (λ w. (paid x part w).has);
}

pub slack-says : (x : ThreadId) (from : Source) (part : Phase) (label : Label) → HasChosenLabel (Choice.Slack x from part) label → Says label None None (Some x) (Some x)
slack-says x from part label chose = record {
  kernel = chosen-says kernel_level (Choice.Slack x from part) label None chose (λ w. (lent x from part w).kernel);
  pays = chosen-says payer (Choice.Slack x from part) label None chose (λ w. (lent x from part w).pays);
  borrows = chosen-says borrower (Choice.Slack x from part) label (Some x) chose (λ w. (lent x from part w).borrows);
  has = chosen-says thread_of (Choice.Slack x from part) label (Some x) chose (λ w. (lent x from part w).has);
}

pub slack-label : (x : ThreadId) (from : Source) (part : Phase) (label : Label) → HasChosenLabel (Choice.Slack x from part) label → (work : Work) × (label ≡ Label.Slack x from work)
slack-label x from Phase.In label (inl is) = (Work.In, is)
slack-label x from Phase.In label (inr is) = (Work.In, is)
slack-label x from Phase.Body label (inl is) = (Work.Run, is)
slack-label x from Phase.Body label (inr is) = (Work.Call, is)
slack-label x from Phase.Out label (inl is) = (Work.In, is)
slack-label x from Phase.Out label (inr is) = (Work.In, is)

pub kernel-says : (k : ℕ) (label : Label) → HasChosenLabel (Choice.Kernel k) label → Says label (Some k) None None None
kernel-says k label chose = record {
  kernel = chosen-says kernel_level (Choice.Kernel k) label (Some k) chose (λ w. refl);
  pays = chosen-says payer (Choice.Kernel k) label None chose (λ w. refl);
  borrows = chosen-says borrower (Choice.Kernel k) label None chose (λ w. refl);
  has = chosen-says thread_of (Choice.Kernel k) label None chose (λ w. refl);
}

pub idle-says : (label : Label) → HasChosenLabel Choice.Idle label → Says label None None None None
idle-says label chose = record {
  kernel = chosen-says kernel_level Choice.Idle label None chose (λ w. refl);
  pays = chosen-says payer Choice.Idle label None chose (λ w. refl);
  borrows = chosen-says borrower Choice.Idle label None chose (λ w. refl);
  has = chosen-says thread_of Choice.Idle label None chose (λ w. refl);
}
