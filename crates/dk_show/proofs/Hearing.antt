-- What is told of the reactions of a chain in a ledger.
use Rattle.dk_show.proofs.Names.{ℕ, ◌≡◌, List, refl, subst, sym, Option, Configuration, Entry, Heading, Journal, IsOwnHeading, Reactions, TellsReactions, reaction_in, reactions_line, IsChainText, AreReactionsTold, ChainIn}
use Rattle.dk_show.specs.declared.status.Status.TheVariants as status

pub told_of : (chain : ChainIn) (j : Journal) (c : Configuration) (h : Heading) (es : List Entry) (first : ℕ) (rest line text page : List ℕ) (seen : Option Reactions)
    → record { config = c; first = first; rest = rest } ≡ chain → record { heading = h; entries = es } ≡ j → IsOwnHeading c h
    → TellsReactions (reaction_in c es first rest) seen → line ≡ reactions_line seen → IsChainText c first rest line page → text ≡ page
    → AreReactionsTold chain j text status.Done
told_of chain j c h es first rest line text page seen same ledger own exact is told has =
    subst (λ (x : ChainIn). AreReactionsTold x j text status.Done) same
    (subst (λ (l : Journal). AreReactionsTold (record { config = c; first = first; rest = rest }) l text status.Done) ledger
    (record {
      own = own;
      seen = seen;
      exact = exact;
      told = subst (IsChainText c first rest (reactions_line seen)) (sym has) (subst (λ m. IsChainText c first rest m page) is told);
      done = refl;
    }))
