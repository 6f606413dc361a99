-- What the tables tell of at each stage.
use Rattle.dk_dispatch.proofs.Names.{◌≡◌, ◌∙◌, List, length, ap, inr, refl, sym, subst, Configuration, Work, Entry, chosen, label_of, Tables, IsRecount, TellsOf, ready, booked, Past, Tick, Ready, Charged, Booked, Closed, told, told_at, Dispatched, Stands, StandsAt, dispatched, IsTelling, IsTellingAt}
use Rattle.dk_recount.specs.Questions.{charged}

pub tells-at : (tick : Tick) (c : Configuration) (past : List Entry) (d : Tables) → StandsAt tick c past d → IsTellingAt tick c past → TellsOf d c (told_at tick c past)
tells-at Ready c past d stands telling = ready stands
tells-at Charged c past d stands telling = charged (stands (label_of (chosen c past) Work.Call) (inr refl))
tells-at (Booked e) c past d stands telling = booked (stands telling) ((stands telling).ruled.audited, telling)
tells-at (Closed _) c past d stands telling = elim telling [ ]

pub recount-at : (tick : Tick) (c : Configuration) (past : List Entry) (d : Tables) → StandsAt tick c past d → IsTellingAt tick c past
    → IsRecount c (length past) (told_at tick c past) d
recount-at Ready c past d stands telling = stands.recount
recount-at Charged c past d stands telling = (stands (label_of (chosen c past) Work.Call) (inr refl)).recount
recount-at (Booked e) c past d stands telling = (stands telling).recount
recount-at (Closed _) c past d stands telling = elim telling [ ]

-- between two ticks they tell of the entries
pub telling-ready : (p : Past) → p.tick ≡ Ready → IsTelling p
telling-ready p now = subst (λ t. IsTellingAt t p.config p.entries) (sym now) tt

-- what is told then, of these entries
pub of-ready : (p : Past) (c : Configuration) (past : List Entry) → p.tick ≡ Ready → p.config ≡ c → p.entries ≡ past
    → (P : Configuration → List Entry → List Entry → Type 0) → P p.config p.entries (told p) → P c past past
of-ready p c past now config entries P is =
    subst (λ es. P c es es) entries (subst (λ k. P k p.entries p.entries) config (subst (λ t. P p.config p.entries (told_at t p.config p.entries)) now is))

module _ (p : Past) (d : Tables) (v : Dispatched) (is : dispatched p d ≡ v) (telling : IsTelling v.past) (stands : Stands p d) where
  pub is-telling : IsTelling p
  is-telling = subst (λ (w : Dispatched). IsTelling w.past) (sym is) telling

  -- what holds of the entries that the tables tell of holds of what contracts see
  pub at-told : (P : Configuration → List Entry → Type 0) → (TellsOf d p.config (told p) → P p.config (told p)) → P v.past.config (told v.past)
  at-told P f = subst (λ (w : Dispatched). P w.past.config (told w.past)) is (f (tells-at p.tick p.config p.entries d stands is-telling))

  pub tick-told : d.demand.windows.tick ≡ length v.past.entries
  tick-told = (recount-at p.tick p.config p.entries d stands is-telling).tick ∙ ap (λ (w : Dispatched). length w.past.entries) is
