-- A number that is told, and what is asked of it.
use Rattle.std.proofs.Common.{ℕ, ◌≡◌, ◌+◌, ◌-◌, ◌≤◌, ◌<◌, ◌∙◌, ◌∷◌, true, false, List, Some, None, ap, sym, subst, refl, arith}
use Rattle.std.specs.Prelude.{nat_le, Option, IsTrue, ◌↔◌}
use Rattle.std.proofs.lemmas.Bool.Decides.{nat_tests}
use Rattle.dk_config.specs.Configuration.{Configuration}
use Rattle.dk_config.specs.Certification.{spare}
use Rattle.dk_config_report.specs.Pages.{IsLeast}
use Rattle.dk_margins.specs.Margins.{IsGreatest}
use Rattle.dk_chain.specs.Age.{IsAge}
use Rattle.dk_chain.specs.Chain.{AreDone, IsReaction}
use Rattle.dk_chain.specs.Least.{IsShortest}
use Rattle.dk_config.specs.Ahead.{IsEnough}
use Rattle.dk_when.specs.Earliest.{MayHave}
use Rattle.dk_allotment.specs.Beside.{IsMostBeside}
use Rattle.dk_allotment.specs.Given.{given}
use Rattle.dk_needs_check.specs.declared.row.Answer.{Answer}
use Rattle.dk_needs_check.specs.declared.row.Answers.{Answers}
use Rattle.dk_needs_check.specs.declared.row.Bound.{Bound}
use Rattle.dk_needs_check.specs.declared.row.Measure.{Measure}
use Rattle.dk_needs_check.specs.Bounds.{IsAtLeast, IsAtMost, IsAtMostIfAny, IsLeastIfAny, Reaches, Within, is_met, is_upper, keeps}
use Rattle.dk_needs_check.specs.Meaning.{AreOne, HasAge, HasSlack, HasSpare, IfThere, IsAgeBound, IsReactionBound, IsReactionJitter, ReactsWithin, VariesBy, tested_where}

le-of : (a b : ℕ) → nat_le a b ≡ true → a ≤ b
le-of a b is = grind (arith, nat_tests)

of-le : (a b : ℕ) → a ≤ b → nat_le a b ≡ true
of-le a b is = grind (arith, nat_tests)

not-above : (a b : ℕ) → (a < b → ⊥) → b ≤ a
not-above a b never = grind arith

pub at_most : (P : ℕ → Type 0) (m : Measure) (n asked : ℕ) (b : Bound) → is_upper m ≡ true → IsLeast P n
    → b ≡ record { measure = m; number = Some n; asked = asked } → IsAtMost P m asked b
at_most P m n asked b upper least told =
    let is : is_met b ≡ nat_le n asked = ap is_met told ∙ ap (λ u. keeps u (Some n) asked) upper in
    record {
      number = n;
      least = least;
      told = told;
      truth = (
        λ met. (n, le-of n asked (sym is ∙ met), least.reached),
        λ (k, within, has). is ∙ of-le n asked (let less = least.least k has in omega (arith, less, within)),
      );
    }

reached : (P : ℕ → Type 0) (most : Option ℕ) (asked : ℕ) → IsGreatest P most → IsTrue (keeps false most asked) ↔ Reaches P asked
reached P None asked none = (λ met. absurd (let never : false ≡ true = met in cc), λ (n, above, has). absurd (none n has))
reached P (Some most) asked (has, no_greater) = (
  λ met. (most, le-of asked most met, has),
  λ (n, above, so). of-le asked most (let less = not-above most n (λ more. no_greater n more so) in omega (arith, less, above)),
)

pub at_most_if_any : (P : ℕ → Type 0) (m : Measure) (n : Option ℕ) (asked : ℕ) (b : Bound) → is_upper m ≡ true → IsLeastIfAny P n
    → b ≡ record { measure = m; number = n; asked = asked } → IsAtMostIfAny P m asked b
at_most_if_any P m n asked b upper least told =
    let is : is_met b ≡ keeps true n asked = ap is_met told ∙ ap (λ u. keeps u n asked) upper in
    let truth = found n least in
    record {
      number = n;
      least = least;
      told = told;
      truth = (λ met. truth.0 (sym is ∙ met), λ has. is ∙ truth.1 has);
    }
  where
    found : (o : Option ℕ) → IsLeastIfAny P o → IsTrue (keeps true o asked) ↔ Within P asked
    found None none = (λ met. absurd (let never : false ≡ true = met in cc), λ (k, within, has). absurd (none k has))
    found (Some k) one = (
      λ met. (k, le-of k asked met, one.reached),
      λ (j, within, has). of-le k asked (let less = one.least j has in omega (arith, less, within)),
    )

-- the greatest number beside the others is one that none above has the fact of
pub most_is : (c : Configuration) (xs : List ℕ) (p : ℕ) (most : Option ℕ) → IsMostBeside c (given xs) p most → IsGreatest (HasSlack c xs p) most
most_is c xs p None none = none
most_is c xs p (Some most) (reached, greatest) = (reached, λ n above has. let le = greatest n has in omega (arith, le, above))

pub at_least : (P : ℕ → Type 0) (m : Measure) (most : Option ℕ) (asked : ℕ) (b : Bound) → is_upper m ≡ false → IsGreatest P most
    → b ≡ record { measure = m; number = most; asked = asked } → IsAtLeast P m asked b
at_least P m most asked b lower greatest told =
    let is : is_met b ≡ keeps false most asked = ap is_met told ∙ ap (λ u. keeps u most asked) lower in
    let truth = reached P most asked greatest in
    record {
      most = most;
      greatest = greatest;
      told = told;
      truth = (λ met. truth.0 (sym is ∙ met), λ has. is ∙ truth.1 has);
    }

-- what is left over is the greatest number that is left over
pub left : (c : Configuration) (j n : ℕ) → n ≡ spare c j → IsGreatest (HasSpare c j) (Some n)
left c j n is = (omega (arith, is), λ m more within. (omega (arith, is, more, within)))

-- no chain has two reaction times
less-reaction : (c : Configuration) (done : ℕ → ℕ) (chain : List ℕ) (n m : ℕ) → IsReaction c done chain n → IsReaction c done chain m → n ≤ m
less-reaction c done chain n m is other =
    let (t, met) = is.met in
    let enough = other.enough t in
    omega (arith, met, enough)

least-reaction : (c : Configuration) (done : ℕ → ℕ) (chain : List ℕ) (n : ℕ) → IsReaction c done chain n → IsLeast (IsReaction c done chain) n
least-reaction c done chain n is = record { reached = is; least = λ m other. less-reaction c done chain n m is other }

least-age : (c : Configuration) (done : ℕ → ℕ) (first : ℕ) (rest : List ℕ) (r n : ℕ) → IsReaction c done (first ∷ rest) r → IsAge c first rest r n
    → IsLeast (HasAge c done first rest) n
least-age c done first rest r n is age =
    record {
      reached = (r, is, age);
      least = λ m (q, other, old). (let less = less-reaction c done (first ∷ rest) r q is other in omega (arith, less, age, old));
    }

pub reaction_told : (c : Configuration) (first : ℕ) (rest : List ℕ) (n : ℕ) (asked : Option ℕ)
    → ((done : ℕ → ℕ) → AreDone c done → IsReaction c done (first ∷ rest) n)
    → IfThere (IsReactionBound c first rest) asked (tested_where Measure.Reaction n asked)
reaction_told c first rest n None is = refl
reaction_told c first rest n (Some asked) is =
    (_, (λ done are. at_most (IsReaction c done (first ∷ rest)) Measure.Reaction n asked _ refl (least-reaction c done (first ∷ rest) n (is done are)) refl), refl)

pub age_told : (c : Configuration) (first : ℕ) (rest : List ℕ) (r n : ℕ) (asked : Option ℕ)
    → ((done : ℕ → ℕ) → AreDone c done → IsReaction c done (first ∷ rest) r)
    → ((done : ℕ → ℕ) (reaction : ℕ) → AreDone c done → IsReaction c done (first ∷ rest) reaction → IsAge c first rest reaction n)
    → IfThere (IsAgeBound c first rest) asked (tested_where Measure.Age n asked)
age_told c first rest r n None is age = refl
age_told c first rest r n (Some asked) is age =
    (_, (λ done are. at_most (HasAge c done first rest) Measure.Age n asked _ refl (least-age c done first rest r n (is done are) (age done r are (is done are))) refl), refl)

-- the least number by which a main's ticks vary is the difference of the two that are told
least-varies : (c : Configuration) (p k from by : ℕ) → IsLeast (MayHave c p k) from → IsLeast (IsEnough c p k) by → from ≤ by
    → IsLeast (VariesBy c p k) (by - from)
least-varies c p k from by soonest latest le =
    record {
      reached = (from, by, soonest, latest, omega (arith, le));
      least = λ m (from', by', soonest', latest', within). (
          let early = soonest'.least from soonest.reached in
          let late = latest.least by' latest'.reached in
          omega (arith, early, late, within));
    }

pub varies_told : (c : Configuration) (p k from by n : ℕ) (m : Measure) (asked : Option ℕ) → is_upper m ≡ true → IsLeast (MayHave c p k) from → IsLeast (IsEnough c p k) by
    → from ≤ by → n ≡ by - from → IfThere (IsAtMost (VariesBy c p k) m) asked (tested_where m n asked)
varies_told c p k from by n m None upper soonest latest le is = refl
varies_told c p k from by n m (Some asked) upper soonest latest le is =
    (_, at_most (VariesBy c p k) m n asked _ upper (subst (IsLeast (VariesBy c p k)) (sym is) (least-varies c p k from by soonest latest le)) refl, refl)

-- no chain has two shortest reaction times
less-shortest : (c : Configuration) (p : ℕ) (rest : List ℕ) (n m : ℕ) → IsShortest c p rest n → IsShortest c p rest m → n ≤ m
less-shortest c p rest n m is other =
    let less = is.least other.from other.first in
    let one = is.is in
    let two = other.is in
    omega (arith, less, one, two)

pub least_jitter : (c : Configuration) (done : ℕ → ℕ) (first : ℕ) (rest : List ℕ) (r s : ℕ) → IsReaction c done (first ∷ rest) r → IsShortest c first rest s
    → IsLeast (ReactsWithin c done first rest) (r - s)
least_jitter c done first rest r s longest shortest =
    record {
      reached = (r, s, longest, shortest, omega arith);
      least = λ m (r', s', longest', shortest', within). (
          let late = less-reaction c done (first ∷ rest) r r' longest longest' in
          let early = less-shortest c first rest s' s shortest' shortest in
          omega (arith, late, early, within));
    }

pub jitter_told : (c : Configuration) (first : ℕ) (rest : List ℕ) (n : ℕ) (asked : Option ℕ)
    → ((done : ℕ → ℕ) → AreDone c done → IsLeast (ReactsWithin c done first rest) n)
    → IfThere (IsReactionJitter c first rest) asked (tested_where Measure.ReactionJitter n asked)
jitter_told c first rest n None is = refl
jitter_told c first rest n (Some asked) is =
    (_, (λ done are. at_most (ReactsWithin c done first rest) Measure.ReactionJitter n asked _ refl (is done are) refl), refl)

-- one answer is that of a need for one thing
pub one_answer : (IsBound : ℕ → Bound → Type 0) (there named : Option ℕ) (a : Option Answer) (r : Answers) → there ≡ named
    → IfThere IsBound there a → r.first ≡ a → r.second ≡ None → AreOne (IfThere IsBound named) r
one_answer IsBound there named a r same is first second =
    (subst (λ (o : Option Answer). IfThere IsBound named o) (sym first) (subst (λ (o : Option ℕ). IfThere IsBound o a) same is), second)
