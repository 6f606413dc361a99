-- The tick of an entry, and the finding after all ticks.
use Rattle.dk_audit.proofs.Names.{ℕ, ◌≡◌, ◌+◌, ◌<◌, ◌∷◌, Bool, true, false, List, length, get_or, Option, Some, None, refl, ap, ◌∙◌, sym, subst, ◌↔◌, IsTrue, slice_get-get_or, Configuration, Choice, Entry, Audited, Follows, HasChosenLabel, IsRuled, Past, charged, choice_at, closed, opened_past, Dispatched, Journal, Finding, Breach, Books, IsAfter, IsBookedIf, IsJudged, IsOpen, Obeys, ready_past, BreaksEvent, BreaksLabel, IfPassed, IsFinding, IsFoundOf, IsOwnHeading, found_at, past_of}
use Rattle.dk_audit.specs.declared.finding.Finding.TheVariants as finding
use Rattle.dk_audit.specs.declared.finding.Breach.TheVariants as breach
use Rattle.dk_audit.proofs.Pasts.{past-more}

-- an entry that is labeled as the choice says and obeys the rules so far is open once its tick is charged
pub opened : (e : Entry) (choice : Choice) (first second : Bool) (old new : Past) → IsRuled old.config old.entries
    → choice ≡ choice_at old → first ≡ true → IsTrue first ↔ HasChosenLabel choice e.label
    → second ≡ true → IsTrue second ↔ Obeys old.config old.entries e → new ≡ charged old → IsOpen e new
opened e choice first second old new ruled chose yes' labeled yes'' obeys next =
    subst (IsOpen e) (sym next)
    (record {
      charged = refl;
      ruled = ruled;
      chose = subst (λ z. HasChosenLabel z e.label) chose (labeled.0 yes');
      obeys = obeys.0 yes'';
    })

-- the entry that is booked
pub booked-at : (e : Entry) (b : Bool) (old new : Past) → b ≡ true → IsBookedIf b e old new → Books e old new
booked-at e b old new is booked = let both : IsBookedIf true e old new = subst (λ b. IsBookedIf b e old new) is booked in both

pub refused-at : (e : Entry) (b : Bool) (old new : Past) → b ≡ false → IsBookedIf b e old new → ¬ Follows old.config old.entries e
refused-at e b old new is booked = let no : IsBookedIf false e old new = subst (λ b. IsBookedIf b e old new) is booked in no

-- the tick of an entry, where none is found
pub judged-none : (e : Entry) (old mid booked shut next : Past) → mid ≡ charged old → Books e mid booked → shut ≡ closed e booked → next ≡ opened_past shut
    → IsJudged e old None next
judged-none e old mid booked shut next charge books close open_next =
    let follows : Follows old.config old.entries e =
    subst (λ (q : Past). Follows q.config q.entries e) charge
    (subst (λ es. Follows mid.config es e) books.entries (subst (λ k. Follows k booked.entries e) books.config books.whole.follows)) in (
      follows,
      open_next ∙ ap opened_past close ∙ ap (λ k. ready_past k (e ∷ booked.entries)) books.config ∙ ap (λ es. ready_past mid.config (e ∷ es)) books.entries
          ∙ ap (λ (q : Past). ready_past q.config (e ∷ q.entries)) charge,
    )

pub judged-refused : (e : Entry) (old mid : Past) → mid ≡ charged old → ¬ Follows mid.config mid.entries e → ¬ Follows old.config old.entries e
judged-refused e old mid charge broken = subst (λ (q : Past). ¬ Follows q.config q.entries e) charge broken

-- where no breach is found the dispatcher is before the next tick
pub none-judged : (c : Configuration) (past : List Entry) (e : Entry) (old new : Dispatched) (found : Option Breach) → ((b : Breach) → found ≡ Some b → ⊥)
    → IsAfter c past old → IsJudged e old.past found new.past → IsAfter c (e ∷ past) new
none-judged c past e old new None none after judged = record {
  is = judged.1 ∙ ap (λ (q : Past). ready_past q.config (e ∷ q.entries)) after.is;
  audited = (after.audited, subst (λ (q : Past). Follows q.config q.entries e) after.is judged.0);
}
none-judged c past e old new (Some b) none after judged = absurd (none b refl)

-- the dispatcher after the tick of the entry at place n
pub next-ready : (c : Configuration) (entries : List Entry) (n : ℕ) (d : Entry) (new : Dispatched) → n < length entries
    → IsAfter c (get_or entries n d ∷ past_of entries n) new → IsAfter c (past_of entries (n + 1)) new
next-ready c entries n d new within ready = subst (λ p. IsAfter c p new) (sym (past-more entries n d within)) ready

-- a breach, of what was before it
pub breach-judged : (c : Configuration) (past : List Entry) (e : Entry) (old new : Dispatched) (found : Breach) → IsAfter c past old → IsJudged e old.past (Some found) new.past
    → IsJudged e (ready_past c past) (Some found) new.past
breach-judged c past e old new found after judged = subst (λ q. IsJudged e q (Some found) new.past) after.is judged

-- a breach of tick n is found there
pub breach-found : (c : Configuration) (entries : List Entry) (n : ℕ) (d : Entry) (found : Breach) (given : Finding) (new : Past) → given ≡ found_at found n → n < length entries
    → Audited c (past_of entries n) → IsJudged (get_or entries n d) (ready_past c (past_of entries n)) (Some found) new → IsFoundOf c entries given
breach-found c entries n d breach.Label given new is within audited judged =
    subst (IsFoundOf c entries) (sym is)
    (record { before = audited; entry = get_or entries n d; at = slice_get-get_or entries n d within; wrong = judged })
breach-found c entries n d breach.Event given new is within audited judged =
    subst (IsFoundOf c entries) (sym is)
    (record { before = audited; entry = get_or entries n d; at = slice_get-get_or entries n d within; label = judged.0; wrong = judged.1 })

-- what is found of the entries is found of the ledger, where its header is right
pub found-in : (c : Configuration) (ledger : Journal) (entries : List Entry) (f : Finding) → IsOwnHeading c ledger.heading → entries ≡ ledger.entries → IsFoundOf c entries f → IsFinding c ledger f
found-in c ledger entries finding.Header own same found = absurd found
found-in c ledger entries (finding.Label n) own same found = (own, subst (λ es. BreaksLabel c es n) same found)
found-in c ledger entries (finding.Event n) own same found = (own, subst (λ es. BreaksEvent c es n) same found)
found-in c ledger entries (finding.Passed n) own same found = (own, subst (λ es. IsFoundOf c es (finding.Passed n)) same found)

-- and where all passed, a law holds
pub passed-by : (Holds : List Entry → Type 0) (c : Configuration) (ledger : Journal) (entries : List Entry) (f : Finding) → ((past : List Entry) → Audited c past → Holds past)
    → entries ≡ ledger.entries → IsFoundOf c entries f → IfPassed f Holds ledger
passed-by Holds c ledger entries finding.Header law same found = tt
passed-by Holds c ledger entries (finding.Label n) law same found = tt
passed-by Holds c ledger entries (finding.Event n) law same found = tt
passed-by Holds c ledger entries (finding.Passed n) law same found =
    let passes : IsFoundOf c ledger.entries (finding.Passed n) = subst (λ es. IsFoundOf c es (finding.Passed n)) same found in
    law _ passes.rules
