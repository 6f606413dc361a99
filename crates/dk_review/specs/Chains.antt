-- The chains of processes that needs name.
use Rattle.std.specs.Prelude.{ℕ, ◌≡◌, ◌+◌, Bool, false, List, [], ◌∷◌, ◌++◌, take, Option, Some, None, option_to_list, if◌then◌else◌}
use Rattle.std.specs.Cmp.Lexicographic.{pointwise}
use Rattle.std.specs.List.{join_with_byte, list_any}
use Rattle.std.specs.Str.{bytes_eq}
use Rattle.dk_chain.specs.Chain.{AreDone, IsReaction}
use Rattle.dk_chain_report.specs.Finding.{processes_named}
use Rattle.dk_chain_report.specs.Report.{IsChainText}
use Rattle.dk_config.specs.Configuration.{Configuration}
use Rattle.dk_needs.specs.declared.needs.Need.{Need}
use Rattle.dk_needs.specs.declared.needs.What.{What}
use Rattle.dk_page.specs.declared.chaining.ChainTold.{ChainTold}

-- the names of the chain that is asked about
abbrev pub chain_in : What → Option (List (List ℕ))
chain_in (What.Chain processes reaction age) = Some processes
chain_in (What.ChainJitter processes reaction) = Some processes
chain_in _ = None

abbrev pub is_same : List (List ℕ) → Option (List (List ℕ)) → Bool
is_same names None = false
is_same names (Some others) = pointwise bytes_eq others names

abbrev pub names_same : List (List ℕ) → Need → Bool
names_same names need = is_same names (chain_in need.what)

-- one of these needs names the chain
abbrev pub is_named : List Need → List (List ℕ) → Bool
is_named needs names = list_any (names_same names) needs

abbrev pub unless_named : List Need → Option (List (List ℕ)) → Option (List (List ℕ))
unless_named before None = None
unless_named before (Some names) = if is_named before names then None else Some names

-- the names of the chain that is asked about, unless one of the needs before names it
abbrev pub new_chain : List Need → What → Option (List (List ℕ))
new_chain before what = unless_named before (chain_in what)

-- what `chain` tells of the chain of these names, which are those of these processes
pub record IsChainTold (c : Configuration) (names : List (List ℕ)) (first : ℕ) (rest : List ℕ) (t : ChainTold) : Type 0 where
  pub names_are : t.names.items ≡ join_with_byte 32 names
  pub text : IsChainText c first rest [] t.text.items
  pub reaction : (done : ℕ → ℕ) → AreDone c done → IsReaction c done (first ∷ rest) t.reaction

-- that, where there are such processes
abbrev pub IsChainOf : Configuration → List (List ℕ) → Option (List ℕ) → Option ChainTold → Type 0
IsChainOf c names (Some (first ∷ rest)) (Some t) = IsChainTold c names first rest t
IsChainOf c names (Some (first ∷ rest)) None = ⊥
IsChainOf c names (Some []) told = told ≡ None
IsChainOf c names None told = told ≡ None

abbrev pub IsChainOfNames : Configuration → List (List ℕ) → Option ChainTold → Type 0
IsChainOfNames c names told = IsChainOf c names (processes_named c names) told

abbrev pub IsChainOfSome : Configuration → Option (List (List ℕ)) → Option ChainTold → Type 0
IsChainOfSome c None told = told ≡ None
IsChainOfSome c (Some names) told = IsChainOfNames c names told

-- of what a need asks, behind these
abbrev pub IsChainOfNeed : Configuration → List Need → What → Option ChainTold → Type 0
IsChainOfNeed c before what told = IsChainOfSome c (new_chain before what) told

-- of the needs from number i on, in their order
abbrev pub AreChains : Configuration → List Need → ℕ → List Need → List ChainTold → Type 0
AreChains c all i [] chains = chains ≡ []
AreChains c all i (need ∷ needs) chains =
    (told : Option ChainTold) × (rest : List ChainTold) × IsChainOfNeed c (take i all) need.what told × AreChains c all (i + 1) needs rest
    × (chains ≡ option_to_list told ++ rest)
