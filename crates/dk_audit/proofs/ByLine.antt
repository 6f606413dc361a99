-- What is found of a ledger that is read line by line.
use Rattle.dk_audit.proofs.Names.{ℕ, ◌≡◌, ◌∙◌, ◌+◌, ◌-◌, ◌<◌, ◌++◌, List, length, reverse, Option, Some, None, sym, ap, subst, arith, slice_get_within, take-append-le, Configuration, Entry, chosen, Audited, Follows, HasChosenLabel, LedgerLine, entries_of, Heading, Journal, IsReadable, text_of, get_front, Dispatched, Finding, BreaksEvent, BreaksLabel, IsOwnHeading, past_of, FollowsSoFar, GoesFurther, IfPassedIn, IsFoundIn, IsFoundSoFar}
use Rattle.dk_audit.specs.declared.finding.Finding.TheVariants as finding

-- a breach stays where it is
module _ (c : Configuration) (es more : List Entry) (n : ℕ) where
  past : n < length es → past_of (es ++ more) n ≡ past_of es n
  past within = ap reverse (take-append-le n es more (omega (arith, within)))

  label_stays : BreaksLabel c es n → BreaksLabel c (es ++ more) n
  label_stays b =
      let within = slice_get_within es n b.entry b.at in
      record {
        before = subst (Audited c) (sym (past within)) b.before;
        entry = b.entry;
        at = get_front es more n within ∙ b.at;
        wrong = subst (λ p. ¬ HasChosenLabel (chosen c p) b.entry.label) (sym (past within)) b.wrong;
      }

  event_stays : BreaksEvent c es n → BreaksEvent c (es ++ more) n
  event_stays b =
      let within = slice_get_within es n b.entry b.at in
      record {
        before = subst (Audited c) (sym (past within)) b.before;
        entry = b.entry;
        at = get_front es more n within ∙ b.at;
        label = subst (λ p. HasChosenLabel (chosen c p) b.entry.label) (sym (past within)) b.label;
        wrong = subst (λ p. ¬ Follows c p b.entry) (sym (past within)) b.wrong;
      }

module _ (c : Configuration) (h : Heading) (es : List Entry) (line : LedgerLine) (old new : Dispatched) where
  abbrev all : List Entry
  all = es ++ entries_of line

  stays : (f : Finding) → IsFoundSoFar c (record { heading = h; entries = es }) (Some f) old → IsFoundSoFar c (record { heading = h; entries = all }) (Some f) new
  stays finding.Header found = found
  stays (finding.Label n) found = (found.0, label_stays c es (entries_of line) n found.1)
  stays (finding.Event n) found = (found.0, event_stays c es (entries_of line) n found.1)
  stays (finding.Passed n) found = absurd found

  judged : (o : Option Finding) → IsOwnHeading c h → FollowsSoFar c all o new → IsFoundSoFar c (record { heading = h; entries = all }) o new
  judged None own follows = (own, follows)
  judged (Some finding.Header) own follows = absurd follows
  judged (Some (finding.Label n)) own follows = (own, follows)
  judged (Some (finding.Event n)) own follows = (own, follows)
  judged (Some (finding.Passed n)) own follows = absurd follows

  -- what is found with the entries of one line more
  pub found_further : (before after : Option Finding) → line.start ≡ length es → IsFoundSoFar c (record { heading = h; entries = es }) before old
      → GoesFurther line before old after new → IsFoundSoFar c (record { heading = h; entries = all }) after new
  found_further None after start found goes = judged after found.0 (goes c es start found.1)
  found_further (Some f) after start found goes = subst (λ o. IsFoundSoFar c (record { heading = h; entries = all }) o new) (sym goes) (stays f found)

-- where all passed, a law holds
pub passed_in : (Holds : List Entry → Type 0) (c : Configuration) (bytes : List ℕ) (f : Finding) → ((j k : Journal) → IsReadable j → IsReadable k → text_of j ≡ text_of k → j ≡ k)
    → ((past : List Entry) → Audited c past → Holds past) → IsFoundIn c bytes f → IfPassedIn f Holds bytes
passed_in Holds c bytes finding.Header one law found j is text = tt
passed_in Holds c bytes (finding.Label n) one law found j is text = tt
passed_in Holds c bytes (finding.Event n) one law found j is text = tt
passed_in Holds c bytes (finding.Passed n) one law found j is text =
    subst (λ (k : Journal). Holds (reverse k.entries)) (one found.0 j found.1 is (found.2 ∙ sym text)) (law _ found.3.1.rules)
