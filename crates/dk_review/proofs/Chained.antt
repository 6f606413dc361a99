-- Chains that are told need by need.
use Rattle.std.proofs.Common.{ℕ, ◌≡◌, ◌<◌, ◌≤◌, ◌+◌, ◌∙◌, ◌++◌, ◌∷◌, [], List, length, drop, take, get_or, ap, sym, refl, subst, append_assoc, append-nil}
use Rattle.std.specs.Prelude.{Option, option_to_list}
use Rattle.std.proofs.lemmas.List.{drop_more}
use Rattle.std.proofs.Math.ListN.{drop_of_length-le}
use Rattle.dk_config.specs.Configuration.{Configuration}
use Rattle.dk_needs.specs.declared.needs.Need.{Need}
use Rattle.dk_page.specs.declared.chaining.ChainTold.{ChainTold}
use Rattle.dk_review.specs.Chains.{AreChains, IsChainOfNeed}

-- with those of the needs that are left, the chains so far are those of all
abbrev pub AreSoFar : Configuration → List Need → ℕ → List ChainTold → Type 0
AreSoFar c needs i chains = (rest : List ChainTold) → AreChains c needs i (drop i needs) rest → AreChains c needs 0 needs (chains ++ rest)

pub one_told : (c : Configuration) (needs : List Need) (i : ℕ) (need : Need) (told : Option ChainTold) (old new : List ChainTold)
    → i < length needs → need ≡ get_or needs i need → IsChainOfNeed c (take i needs) need.what told → new ≡ old ++ option_to_list told
    → AreSoFar c needs i old → AreSoFar c needs (i + 1) new
one_told c needs i need told old new inside is are more so_far rest others =
    let left : drop i needs ≡ need ∷ drop (i + 1) needs = drop_more needs i need inside ∙ ap (λ n. n ∷ drop (i + 1) needs) (sym is) in
    let here : AreChains c needs i (need ∷ drop (i + 1) needs) (option_to_list told ++ rest) = (told, rest, are, others, refl) in
    let whole : AreChains c needs 0 needs (old ++ (option_to_list told ++ rest)) =
    so_far (option_to_list told ++ rest) (subst (λ (ns : List Need). AreChains c needs i ns (option_to_list told ++ rest)) (sym left) here) in
    subst (λ (cs : List ChainTold). AreChains c needs 0 needs cs) (sym (ap (λ cs. cs ++ rest) more ∙ append_assoc old (option_to_list told) rest)) whole

pub all_told : (c : Configuration) (needs : List Need) (i : ℕ) (chains : List ChainTold) → length needs ≤ i → AreSoFar c needs i chains
    → AreChains c needs 0 needs chains
all_told c needs i chains past so_far =
    let none : AreChains c needs i (drop i needs) [] = subst (λ (ns : List Need). AreChains c needs i ns []) (sym (drop_of_length-le needs past)) refl in
    subst (λ (cs : List ChainTold). AreChains c needs 0 needs cs) (append-nil chains) (so_far [] none)
