-- What a verdict, and what a reading, says of a page.
use Rattle.std.proofs.Common.{◌≡◌, subst, sym}
use Rattle.std.specs.Prelude.{IfOk, Result, Ok, Err}
use Rattle.dk_certify.specs.declared.certifying.Verdict.{Verdict}
use Rattle.dk_config.specs.Configuration.{Configuration}
use Rattle.dk_loader.specs.declared.fault.LoadFault.{LoadFault}
use Rattle.dk_page.specs.declared.told.Certification.{Certification}
use Rattle.dk_review.specs.Files.{File}
use Rattle.dk_review.specs.Reviews.{IsCertification, IsRefused, IsReviewOf, IsReviewedBy}
use Rattle.dk_review.specs.declared.reviewing.Review.{Review}

pub of_config : {E : Type 0} (file : File) (Holds : Configuration → Review → Type 0) (read : Result Configuration LoadFault)
    (r : Result Review E) (c : Configuration) → read ≡ Ok c → IfOk r (Holds c) → IfOk r (IsReviewOf file Holds read)
of_config file Holds read r c is reviewed = subst (λ k. IfOk r (IsReviewOf file Holds k)) (sym is) reviewed

pub of_none : {E : Type 0} (file : File) (Holds : Configuration → Review → Type 0) (read : Result Configuration LoadFault)
    (r : Result Review E) (e : LoadFault) → read ≡ Err e → IfOk r (IsRefused file) → IfOk r (IsReviewOf file Holds read)
of_none file Holds read r e is refused = subst (λ k. IfOk r (IsReviewOf file Holds k)) (sym is) refused

pub same_fails : (c : Configuration) (v w : Verdict) (k : Certification) → v ≡ w → IsCertification c w k → IsCertification c v k
same_fails c v w k is told = subst (λ x. IsCertification c x k) (sym is) told

pub same_verdict : {E : Type 0} (c : Configuration) (v w : Verdict) (r : Result Certification E)
    → v ≡ w → IfOk r (IsCertification c w) → IfOk r (IsCertification c v)
same_verdict c v w r is told = subst (λ x. IfOk r (IsCertification c x)) (sym is) told

pub by_verdict : {E : Type 0} (file : File) (Holds : Review → Type 0) (c : Configuration) (v w : Verdict)
    (r : Result Review E) → v ≡ w → IfOk r (IsReviewedBy file Holds c w) → IfOk r (IsReviewedBy file Holds c v)
by_verdict file Holds c v w r is told =
    subst (λ x. IfOk r (IsReviewedBy file Holds c x)) (sym is) told
