-- What follows for the evidence.
use Rattle.std.proofs.Common.{ℕ, ◌≡◌, ◌+◌, ◌*◌, ◌/◌, ◌%◌, ◌∙◌, List, ap, sym, subst, arith}
use Rattle.std.proofs.Math.Nat.{div-add-mod}
use Rattle.std.specs.Prelude.{[], slice_index_or}
use Rattle.dk_config.specs.Checked.{IsAccepted, IsChecked}
use Rattle.dk_loader.specs.Workload.{Workload}
use Rattle.dk_alone.specs.Alone.{KeepsToItself}
use Rattle.dk_config.specs.Windows.{main_level, period}
use Rattle.dk_impact.specs.Enough.{EnoughIsTheSameForEver, IsSameForEver}
use Rattle.dk_impact.specs.Greater.{GivesNoLess}
use Rattle.dk_world.specs.Run.{world}
use Rattle.dk_impact.specs.GreaterLaws.{FirstWindowsTellWithMore}
use Rattle.dk_impact.specs.Impact.{IsSameAcross, SeesTheSame, SeesTheSameButPeriod}
use Rattle.dk_impact.specs.Laws.{ChangesOfOthersHaveNoImpact, FirstWindowsTellAcross, FirstWindowsTellAtAnyPeriod}
use Rattle.show_impact.specs.Evidence.{EvidenceOutlives, EvidenceStands, WindowsStand}
use Rattle.show_impact.specs.Impacts.{IsGivenNoLess, IsPeriodAlone, IsSame, IsSameAsItWaits, Keeps, program_of}

-- what is said of a workload's process is said of every list of programs in which it has its program
keeps-in : (w : Workload) (p : ℕ) (programs : List (List ℕ)) → slice_index_or programs p [] ≡ program_of w p → Keeps w p
    → KeepsToItself w.config p (slice_index_or programs p [])
keeps-in w p programs mine keeps = subst (KeepsToItself w.config p) (sym mine) keeps

agree : (old : Workload) (p : ℕ) (new : Workload) (q : ℕ) (programs others : List (List ℕ)) → program_of old p ≡ program_of new q
    → slice_index_or programs p [] ≡ program_of old p → slice_index_or others q [] ≡ program_of new q
    → slice_index_or programs p [] ≡ slice_index_or others q []
agree old p new q programs others one mine theirs = mine ∙ one ∙ sym theirs

module _ (old new : Workload) (p q : ℕ) (checked : IsChecked old.config) (accepted : IsAccepted old.config) (checked' : IsChecked new.config)
    (accepted' : IsAccepted new.config) where
  -- the laws of every run tell that the evidence of what sees the same stands
  pub evidence : ChangesOfOthersHaveNoImpact → FirstWindowsTellAcross → IsSame old p new q → EvidenceStands old p new q
  evidence impact windows same =
      record {
        same = λ programs others n mine theirs begins.
            impact old.config new.config programs others p q n checked accepted checked' accepted' (keeps-in old p programs mine same.keeps.before)
            (keeps-in new q others theirs same.keeps.now) (agree old p new q programs others same.program mine theirs)
            (subst (SeesTheSame old.config p new.config q) (sym mine) same.sees) begins;
        windows = record {
          windows = λ programs others s k holds mine theirs again first.
              windows old.config new.config programs others p q s k holds checked accepted checked' accepted'
              (keeps-in old p programs mine same.keeps.before) (keeps-in new q others theirs same.keeps.now)
              (agree old p new q programs others same.program mine theirs) (subst (SeesTheSame old.config p new.config q) (sym mine) same.sees) again first;
        };
      }

  -- and that it stands window by window where a period alone changes
  pub by_windows : FirstWindowsTellAtAnyPeriod → IsPeriodAlone old p new q → WindowsStand old p new q
  by_windows windows alone =
      record {
        windows = λ programs others s k holds mine theirs again first.
            windows old.config new.config programs others p q s k holds checked accepted checked' accepted'
            (keeps-in old p programs mine alone.keeps.before) (keeps-in new q others theirs alone.keeps.now)
            (agree old p new q programs others alone.program mine theirs) (subst (SeesTheSameButPeriod old.config p new.config q) (sym mine) alone.sees) again
            first;
      }

  -- and so it does where no less is given, and each window has enough
  pub outlives : FirstWindowsTellWithMore → IsGivenNoLess old p new q → EvidenceOutlives old p new q
  outlives windows given =
      record {
        windows = λ programs others s k holds mine theirs again enough first.
            windows old.config new.config programs others p q s k holds checked accepted checked' accepted'
            (keeps-in old p programs mine given.keeps.before) (keeps-in new q others theirs given.keeps.now)
            (agree old p new q programs others given.program mine theirs) (subst (GivesNoLess old.config p new.config q) (sym mine) given.gives) again enough
            first;
      }

  -- where each window has enough it is the same for ever
  pub stays : EnoughIsTheSameForEver → FirstWindowsTellWithMore → IsSameAsItWaits old p new q → EvidenceStands old p new q
  stays law windows is =
      let given = is.given in
      let for-ever : IsSameForEver old.config p new.config q (program_of old p) =
      law old.config new.config p q (program_of old p) checked accepted checked' accepted' given.keeps.before
      (subst (KeepsToItself new.config q) (sym given.program) given.keeps.now) given.gives is.waits.enough in
      record {
        same = λ programs others n mine theirs begins.
            let k = n / period old.config (main_level old.config p) in
            let parts : period old.config (main_level old.config p) * k + n % period old.config (main_level old.config p) ≡ n = div-add-mod n (period old.config (main_level old.config p)) in
            let turned : period old.config (main_level old.config p) * k ≡ k * period old.config (main_level old.config p) = grind arith in
            let place : k * period old.config (main_level old.config p) ≡ n = omega (arith, parts, turned, begins) in
            let place' : k * period new.config (main_level new.config q) ≡ n = ap (λ d. k * d) (sym is.period) ∙ place in
            subst (λ m. IsSameAcross p q (world old.config programs n) (world new.config others m)) place'
            (subst (λ m. IsSameAcross p q (world old.config programs m) (world new.config others (k * period new.config (main_level new.config q)))) place
            (for-ever.same programs others k mine (theirs ∙ sym given.program)));
        windows = record {
          windows = λ programs others s k holds mine theirs again first.
              (outlives windows given).windows programs others s k holds mine theirs again (λ tick begins early. is.waits.enough.enough programs tick mine begins) first;
        };
      }
