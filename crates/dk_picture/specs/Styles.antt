-- The style sheet of a picture, and what its rules say.
use Rattle.std.specs.Prelude.{ℕ, ◌≡◌, ◌++◌, ◌==◌, ◌||◌, ◌∷◌, [], Bool, not, List, codes, decimal, filter, flat_map, fold, if◌then◌else◌, length, map}
use Rattle.std.specs.List.{list_any, slice_split}
use Rattle.std.specs.Str.{bytes_eq}

-- ---- the rules

-- on a light page, and on paper
unfoldable pub light : List ℕ
light = codes "@page{margin:10mm}\n"
    ++ codes ".bg{fill:#fff}text{fill:#1b1b1b}.m{fill:#666}.x{text-anchor:end}.c{text-anchor:middle}.s{font-size:9px}\n"
    ++ codes ".b{font-size:14px}\n"
    ++ codes ".l{fill:#f6f6f6}.g{fill:#dcdcdc}.w{fill:#b9b9b9}.z{fill:#ededed}.y{fill:#d6d6d6}.e{fill:#1b1b1b}\n"
    ++ codes ".u{fill:#c2350a;font-weight:bold}\n"
    ++ codes ".k{fill:#1b1b1b}.i{fill:none;pointer-events:all}.n,.o{fill:#8c8c8c}.r{fill:#4a9ad4}rect.c{fill:#00456e}\n"
    ++ codes ".tn,.tr{fill:url(#t)}.tc{fill:url(#u)}.rn,.rr{fill:url(#q)}.rc{fill:url(#v)}.h{fill:#f3c04b}\n"
    ++ codes ".ti{stop-color:#0a9a72}.tj{stop-color:#005a42}.tb{stop-color:#d9f0e8}.ri{stop-color:#a8489a}\n"
    ++ codes ".rj{stop-color:#6d2360}.rb{stop-color:#f4e2ef}\n"
    ++ codes ".d rect{vector-effect:non-scaling-stroke;stroke-width:.7px}\n"
    ++ codes ".d .k{stroke:#1b1b1b}.d .n,.d .o{stroke:#8c8c8c}.d .r{stroke:#4a9ad4}.d .c{stroke:#00456e}.d .h{stroke:#f3c04b}\n"
    ++ codes ".d .tn,.d .tr,.d .tc{stroke:#0a9a72}.d .rn,.d .rr,.d .rc{stroke:#a8489a}.kt,.ht{font-size:9px}.kt{fill:#fff}\n"

-- on a dark page, behind these
unfoldable pub dark : List ℕ
dark = codes ".bg{fill:#15181b}text{fill:#e9e9e9}.m{fill:#a0a0a0}.g{fill:#33383d}.w{fill:#565c63}.z{fill:#23282c}\n"
    ++ codes ".y{fill:#363c42}.l{fill:#1c2024}\n"
    ++ codes ".k,.e{fill:#f4f4f4}.n,.o{fill:#8b9299}.r{fill:#2f86c4}rect.c{fill:#bfe2fa}.u{fill:#ff8a5c}.h{fill:#c8901a}\n"
    ++ codes ".ti{stop-color:#2db389}.tj{stop-color:#a6efd6}.tb{stop-color:#12362b}.ri{stop-color:#c678b6}\n"
    ++ codes ".rj{stop-color:#f5c9ec}.rb{stop-color:#3a2136}\n"
    ++ codes ".d .k{stroke:#f4f4f4}.d .n,.d .o{stroke:#8b9299}.d .r{stroke:#2f86c4}\n"
    ++ codes ".d .c{stroke:#bfe2fa}\n"
    ++ codes ".d .tn,.d .tr,.d .tc{stroke:#2db389}.d .rn,.d .rr,.d .rc{stroke:#c678b6}.d .h{stroke:#c8901a}.kt,.ht{fill:#000}"

-- ---- bands along a bar

-- from this part of the height on, in hundredths
abbrev pub stop : List ℕ → ℕ → List ℕ
stop class part = codes "<stop class='" ++ class ++ codes "' offset='" ++ decimal part ++ codes "%'/>"

-- two bands of the class, with one of the other between them
abbrev pub two_bands : List ℕ → List ℕ → List ℕ
two_bands a b = stop a 33 ++ stop b 33 ++ codes "\n" ++ stop b 67 ++ stop a 67

-- three of them, with two of the other
abbrev pub three_bands : List ℕ → List ℕ → List ℕ
three_bands a b = stop a 17 ++ stop b 17 ++ codes "\n" ++ stop b 42 ++ stop a 42 ++ stop a 58 ++ codes "\n"
    ++ stop b 58 ++ stop b 83 ++ stop a 83

abbrev pub gradient : List ℕ → List ℕ → List ℕ
gradient name stops =
    codes "<linearGradient id='" ++ name ++ codes "' x2='0' y2='1'>" ++ stops ++ codes "</linearGradient>\n"

-- slack of the timeline has two, reclaimed slack three; those of a call are darker
unfoldable pub bands_text : List ℕ
bands_text = codes "<defs>\n"
    ++ gradient (codes "t") (two_bands (codes "ti") (codes "tb")) ++ gradient (codes "u") (two_bands (codes "tj") (codes "tb"))
    ++ gradient (codes "q") (three_bands (codes "ri") (codes "rb"))
    ++ gradient (codes "v") (three_bands (codes "rj") (codes "rb")) ++ codes "</defs>\n"

unfoldable pub style_text : List ℕ
style_text = codes "<style>\n" ++ light ++ codes "@media screen and (prefers-color-scheme:dark){\n" ++ dark
    ++ codes "}\n</style>\n" ++ bands_text

-- ---- what rules say

-- a rule: what it is for, and what it says of that
pub record Rule : Type 0 where
  pub selectors : List (List ℕ)
  pub says : List (List ℕ)

abbrev pub parted : ℕ → List ℕ → List (List ℕ)
parted b s = slice_split (λ c. c == b) s

-- its selectors with commas between them, an opening brace, and what it says with semicolons between
abbrev pub rule_of : List (List ℕ) → Rule
rule_of (head ∷ body ∷ []) = record { selectors = parted 44 head; says = parted 59 body }
rule_of _ = record { selectors = []; says = [] }

-- a closing brace ends each rule
abbrev pub rules_in : List ℕ → List Rule
rules_in sheet = map (λ r. rule_of (parted 123 r)) (parted 125 (filter (λ c. not (c == 10)) sheet))

-- the last word of a selector, which is for the elements themselves
abbrev pub last_word : List ℕ → List ℕ
last_word s = fold (λ kept word. word) [] (parted 32 s)

-- whether it is for elements of this name and class: by both, by the class or by the name
abbrev pub selects : List ℕ → List ℕ → List ℕ → Bool
selects name class s = bytes_eq (last_word s) (name ++ 46 ∷ class) || bytes_eq (last_word s) (46 ∷ class)
    || bytes_eq (last_word s) name

-- what it says of the property
abbrev pub value_of : List ℕ → List (List ℕ) → List (List ℕ)
value_of property (p ∷ v ∷ []) = if bytes_eq p property then v ∷ [] else []
value_of property _ = []

-- the fills that a style sheet gives elements of this name and class
abbrev pub fills_of : List ℕ → List ℕ → List ℕ → List (List ℕ)
fills_of sheet name class = flat_map (λ r. if list_any (selects name class) r.selectors
    then flat_map (λ d. value_of (codes "fill") (parted 58 d)) r.says else []) (rules_in sheet)

-- on a dark page those of the dark sheet, where it has some
abbrev pub dark_fills : List ℕ → List ℕ → List (List ℕ)
dark_fills name class =
    if length (fills_of dark name class) == 0 then fills_of light name class else fills_of dark name class

-- elements of the name and class have one fill on each page
pub record HasOneFill (name class : List ℕ) : Type 0 where
  pub on_light : length (fills_of light name class) ≡ 1
  pub on_dark : length (dark_fills name class) ≡ 1
