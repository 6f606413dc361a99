-- The style sheet of the code is that of the definitions, and what its rules say.
use Rattle.dk_picture.proofs.Names.{ℕ, ◌≡◌, ◌∙◌, [], ◌∷◌, List, length, sym, ap, refl, codes, Bool, true, false, ◌==◌, if◌then◌else◌, bytes_eq, Event, Label, Source, Work, first_same, STYLE, class_of, shift_of, hold_class, is_urgent, mark_class, HasOneFill, dark_fills, fills_of}
use Rattle.std.specs.Fmt.{digits}
use Rattle.dk_picture.specs.Styles.{bands_text, dark, light, style_text}

pub style_is : STYLE.now ≡ style_text
unfolding digits style_text light dark bands_text
style_is = refl

-- ---- the fill of each label, on a light page and on a dark one

abbrev slack_fill : Source → Work → List ℕ
slack_fill Source.Timeline Work.Call = codes "url(#u)"
slack_fill Source.Timeline _ = codes "url(#t)"
slack_fill (Source.Reclaimed j) Work.Call = codes "url(#v)"
slack_fill (Source.Reclaimed j) _ = codes "url(#q)"

abbrev light_fill : Label → List ℕ
light_fill (Label.Kernel j) = codes "#1b1b1b"
light_fill (Label.In x) = codes "#8c8c8c"
light_fill (Label.Run x) = codes "#4a9ad4"
light_fill (Label.Call x) = codes "#00456e"
light_fill (Label.Out x) = codes "#8c8c8c"
light_fill (Label.Slack x source work) = slack_fill source work
light_fill Label.Idle = codes "none"

abbrev dark_fill : Label → List ℕ
dark_fill (Label.Kernel j) = codes "#f4f4f4"
dark_fill (Label.In x) = codes "#8b9299"
dark_fill (Label.Run x) = codes "#2f86c4"
dark_fill (Label.Call x) = codes "#bfe2fa"
dark_fill (Label.Out x) = codes "#8b9299"
dark_fill (Label.Slack x source work) = slack_fill source work
dark_fill Label.Idle = codes "none"

light_is : (label : Label) → fills_of light (codes "rect") (class_of label) ≡ light_fill label ∷ []
unfolding light
light_is (Label.Kernel j) = refl
light_is (Label.In x) = refl
light_is (Label.Run x) = refl
light_is (Label.Call x) = refl
light_is (Label.Out x) = refl
light_is (Label.Slack x Source.Timeline Work.In) = refl
light_is (Label.Slack x Source.Timeline Work.Run) = refl
light_is (Label.Slack x Source.Timeline Work.Call) = refl
light_is (Label.Slack x (Source.Reclaimed j) Work.In) = refl
light_is (Label.Slack x (Source.Reclaimed j) Work.Run) = refl
light_is (Label.Slack x (Source.Reclaimed j) Work.Call) = refl
light_is Label.Idle = refl

dark_is : (label : Label) → dark_fills (codes "rect") (class_of label) ≡ dark_fill label ∷ []
unfolding light dark
dark_is (Label.Kernel j) = refl
dark_is (Label.In x) = refl
dark_is (Label.Run x) = refl
dark_is (Label.Call x) = refl
dark_is (Label.Out x) = refl
dark_is (Label.Slack x Source.Timeline Work.In) = refl
dark_is (Label.Slack x Source.Timeline Work.Run) = refl
dark_is (Label.Slack x Source.Timeline Work.Call) = refl
dark_is (Label.Slack x (Source.Reclaimed j) Work.In) = refl
dark_is (Label.Slack x (Source.Reclaimed j) Work.Run) = refl
dark_is (Label.Slack x (Source.Reclaimed j) Work.Call) = refl
dark_is Label.Idle = refl

pub bars_filled : (label : Label) → HasOneFill (codes "rect") (class_of label)
bars_filled label = record { on_light = ap length (light_is label); on_dark = ap length (dark_is label) }

pub holds_filled : HasOneFill (codes "rect") hold_class
unfolding light dark
holds_filled = record { on_light = refl; on_dark = refl }

either_filled : (b : Bool) → HasOneFill (codes "path") (if b then codes "u" else codes "e")
unfolding light dark
either_filled true = record { on_light = refl; on_dark = refl }
either_filled false = record { on_light = refl; on_dark = refl }

pub marks_filled : (event : Event) → HasOneFill (codes "path") (mark_class event)
marks_filled event = either_filled (is_urgent event)

-- ---- a class by its fill and its place in the row

-- the class of slack of the timeline, or of reclaimed slack, that isn't a call's
abbrev by_place : ℕ → List ℕ → List ℕ → List ℕ
by_place shift low high = if shift == 6 then low else high

abbrev slack_by : List ℕ → ℕ → List ℕ
slack_by fill shift =
    if bytes_eq fill (codes "url(#t)") then by_place shift (codes "tn") (codes "tr")
    else (if bytes_eq fill (codes "url(#u)") then codes "tc"
    else (if bytes_eq fill (codes "url(#q)") then by_place shift (codes "rn") (codes "rr")
    else (if bytes_eq fill (codes "url(#v)") then codes "rc" else codes "i")))

abbrev class_by : List ℕ → List ℕ → List ℕ → List ℕ → List ℕ → ℕ → List ℕ
class_by kernel switch run call fill shift =
    if bytes_eq fill kernel then codes "k"
    else (if bytes_eq fill switch then by_place shift (codes "n") (codes "o")
    else (if bytes_eq fill run then codes "r"
    else (if bytes_eq fill call then codes "c" else slack_by fill shift)))

abbrev light_class : List ℕ → ℕ → List ℕ
light_class = class_by (codes "#1b1b1b") (codes "#8c8c8c") (codes "#4a9ad4") (codes "#00456e")

abbrev dark_class : List ℕ → ℕ → List ℕ
dark_class = class_by (codes "#f4f4f4") (codes "#8b9299") (codes "#2f86c4") (codes "#bfe2fa")

light_back : (label : Label) → class_of label ≡ light_class (light_fill label) (shift_of label)
light_back (Label.Kernel j) = refl
light_back (Label.In x) = refl
light_back (Label.Run x) = refl
light_back (Label.Call x) = refl
light_back (Label.Out x) = refl
light_back (Label.Slack x Source.Timeline Work.In) = refl
light_back (Label.Slack x Source.Timeline Work.Run) = refl
light_back (Label.Slack x Source.Timeline Work.Call) = refl
light_back (Label.Slack x (Source.Reclaimed j) Work.In) = refl
light_back (Label.Slack x (Source.Reclaimed j) Work.Run) = refl
light_back (Label.Slack x (Source.Reclaimed j) Work.Call) = refl
light_back Label.Idle = refl

dark_back : (label : Label) → class_of label ≡ dark_class (dark_fill label) (shift_of label)
dark_back (Label.Kernel j) = refl
dark_back (Label.In x) = refl
dark_back (Label.Run x) = refl
dark_back (Label.Call x) = refl
dark_back (Label.Out x) = refl
dark_back (Label.Slack x Source.Timeline Work.In) = refl
dark_back (Label.Slack x Source.Timeline Work.Run) = refl
dark_back (Label.Slack x Source.Timeline Work.Call) = refl
dark_back (Label.Slack x (Source.Reclaimed j) Work.In) = refl
dark_back (Label.Slack x (Source.Reclaimed j) Work.Run) = refl
dark_back (Label.Slack x (Source.Reclaimed j) Work.Call) = refl
dark_back Label.Idle = refl

pub light_apart : (a b : Label) → fills_of light (codes "rect") (class_of a) ≡ fills_of light (codes "rect") (class_of b) → shift_of a ≡ shift_of b → class_of a ≡ class_of b
light_apart a b fills shifts =
    let same : light_fill a ≡ light_fill b = first_same (sym (light_is a) ∙ fills ∙ light_is b) in
    light_back a ∙ ap (λ f. light_class f (shift_of a)) same ∙ ap (light_class (light_fill b)) shifts ∙ sym (light_back b)

pub dark_apart : (a b : Label) → dark_fills (codes "rect") (class_of a) ≡ dark_fills (codes "rect") (class_of b) → shift_of a ≡ shift_of b → class_of a ≡ class_of b
dark_apart a b fills shifts =
    let same : dark_fill a ≡ dark_fill b = first_same (sym (dark_is a) ∙ fills ∙ dark_is b) in
    dark_back a ∙ ap (λ f. dark_class f (shift_of a)) same ∙ ap (dark_class (dark_fill b)) shifts ∙ sym (dark_back b)
