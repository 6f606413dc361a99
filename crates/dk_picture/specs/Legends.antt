-- What the bars' colours and the marks stand for, below the axis, by the labels and events that are drawn with them.
use Rattle.std.specs.Prelude.{ℕ, ◌+◌, ◌*◌, ◌++◌, ◌∷◌, [], List, Bool, true, codes, decimal, false, flat_map, length, map}
use Rattle.dk_isa.specs.declared.FaultKind.{FaultKind}
use Rattle.dk_trace.specs.declared.Event.{Event}
use Rattle.dk_trace.specs.Says.{word_of}
use Rattle.dk_trace.specs.declared.Label.{Label}
use Rattle.dk_trace.specs.declared.Refusal.{Refusal}
use Rattle.dk_trace.specs.declared.Source.{Source}
use Rattle.dk_trace.specs.declared.ThreadId.{ThreadId}
use Rattle.dk_trace.specs.declared.Work.{Work}
use Rattle.dk_picture.specs.Bars.{class_of, height_of, shift_of}
use Rattle.dk_picture.specs.Elements.{rect_head}
use Rattle.dk_picture.specs.HoldBars.{hold_class, hold_height}
use Rattle.dk_picture.specs.Marks.{mark_class, outline}
use Rattle.dk_picture.specs.declared.shares.Share.{Share}
use Rattle.dk_picture.specs.Shares.{share_class, share_words}

-- some thread, and its slack
abbrev pub some_thread : ThreadId
some_thread = record { process = 0; serial = 0 }

abbrev pub some_slack : Source → List Label
some_slack source =
    Label.Slack some_thread source Work.In ∷ Label.Slack some_thread source Work.Run
    ∷ Label.Slack some_thread source Work.Call ∷ []

-- labels whose bars are drawn in this colour, from this place on, and what they stand for
pub record Colour : Type 0 where
  pub x : ℕ
  pub labels : List Label
  pub words : List ℕ

abbrev pub colours : List Colour
colours = record { x = 8; labels = Label.Kernel 0 ∷ []; words = codes "kernel" }
    ∷ record { x = 82; labels = Label.In some_thread ∷ Label.Out some_thread ∷ []; words = codes "in, out" }
    ∷ record { x = 176; labels = Label.Run some_thread ∷ []; words = codes "run" }
    ∷ record { x = 229; labels = Label.Call some_thread ∷ []; words = codes "call" }
    ∷ record { x = 289; labels = some_slack Source.Timeline; words = codes "slack, timeline" }
    ∷ record { x = 452; labels = some_slack (Source.Reclaimed 0); words = codes "slack, reclaimed" }
    ∷ []

abbrev pub words_text : ℕ → ℕ → List ℕ → List ℕ
words_text x y words = codes "<text x='" ++ decimal x ++ codes "' y='" ++ decimal y ++ codes "'>" ++ words ++ codes "</text>\n"

-- the bar of such a label
abbrev pub sample : ℕ → Label → List ℕ
sample x label = rect_head (class_of label)
    (record { x = x; y = 26 + shift_of label; width = 12; height = height_of label }) ++ codes "/>"

-- one beside the other, with a line feed behind each second
abbrev pub samples : ℕ → List Label → List ℕ
samples x [] = []
samples x (a ∷ []) = sample x a
samples x (a ∷ b ∷ more) = sample x a ++ sample (x + 13) b ++ codes "\n" ++ samples (x + 26) more

abbrev pub colour_text : Colour → List ℕ
colour_text c = samples c.x c.labels ++ words_text (c.x + 13 * length c.labels + 5) 36 c.words

abbrev pub hold_sample : List ℕ
hold_sample = rect_head hold_class (record { x = 622; y = 26; width = 12; height = hold_height })
    ++ codes "/>" ++ words_text 640 36 (codes "mutex held")

-- an event that is marked in this way, and the middle of its mark
pub record Shape : Type 0 where
  pub x : ℕ
  pub event : Event

abbrev pub shapes : List Shape
shapes = record { x = 13; event = Event.Wait } ∷ record { x = 67; event = Event.Exit }
    ∷ record { x = 121; event = Event.Create 0 0 0 } ∷ record { x = 189; event = Event.Delete 0 }
    ∷ record { x = 257; event = Event.Lock 0 } ∷ record { x = 311; event = Event.Unlock 0 }
    ∷ record { x = 379; event = Event.Slack 0 } ∷ record { x = 440; event = Event.Put 0 }
    ∷ record { x = 487; event = Event.Refused Refusal.NotMain } ∷ record { x = 562; event = Event.Fault FaultKind.Fetch }
    ∷ []

-- a line feed stands behind the longest
abbrev pub shape_end : Event → List ℕ
shape_end (Event.Fault kind) = codes "'/>\n"
shape_end _ = codes "'/>"

abbrev pub shape_text : Shape → List ℕ
shape_text s = codes "<path class='" ++ mark_class s.event ++ codes "' d='M" ++ decimal s.x ++ codes " 52"
    ++ outline s.event ++ shape_end s.event ++ words_text (s.x + 8) 56 (word_of s.event)

-- where a window begins, and until when its main wasn't done
abbrev pub begin_sample : List ℕ
begin_sample = rect_head (codes "w") (record { x = 738; y = 21; width = 1; height = 23 })
    ++ codes "/>" ++ words_text 746 36 (codes "a window begins") ++ rect_head (codes "e")
    (record { x = 872; y = 38; width = 24; height = 1 }) ++ codes "/>" ++ words_text 904 36 (codes "until the main is done")

-- a main that used so many ticks of a budget of 15 in a window, and whether it overran it
abbrev pub some_share : ℕ → Bool → Share
some_share used overran =
    record { process = 0; row = 0; first = 0; end = 0; used = used; done = 0; overran = overran; budget = 15; shared = false }

abbrev pub share_sample : ℕ → Share → List ℕ
share_sample x d = codes "<text class='" ++ share_class d ++ codes "' x='" ++ decimal x ++ codes "' y='56'>"
    ++ share_words d ++ codes "</text>"

abbrev pub share_samples : List ℕ
share_samples = share_sample 646 (some_share 9 false) ++ words_text 654 56 (codes "used/budget of a window")
    ++ share_sample 860 (some_share 15 true) ++ words_text 868 56 (codes "it was overrun")

-- the number of marks in a strip
abbrev pub sum_sample : List ℕ
sum_sample = codes "<text class='s' x='988' y='56'>7</text>" ++ words_text 1000 56 (codes "so many marks")

-- a main that a slower thread's hold kept waiting
abbrev pub wait_sample : List ℕ
wait_sample = rect_head hold_class (record { x = 1104; y = 49; width = 24; height = 4 }) ++ codes "/>"
    ++ rect_head (codes "e") (record { x = 1104; y = 53; width = 24; height = 1 }) ++ codes "/>\n"
    ++ words_text 1136 56 (codes "a hold kept the main waiting")

-- all of them, and the end of the picture
unfoldable pub legend_rows : List ℕ
legend_rows = flat_map colour_text colours ++ hold_sample ++ begin_sample ++ flat_map shape_text shapes ++ share_samples
    ++ sum_sample ++ wait_sample ++ codes "</g>\n</svg>\n"

-- ---- what it names

-- the classes of its bars
abbrev pub named_classes : List (List ℕ)
named_classes = map class_of (flat_map (λ c. c.labels) colours)

-- the class, the outline and the word of a mark
pub record Meaning : Type 0 where
  pub class : List ℕ
  pub outline : List ℕ
  pub word : List ℕ

abbrev pub meaning_of : Event → Meaning
meaning_of e = record { class = mark_class e; outline = outline e; word = word_of e }

abbrev pub meanings : List Meaning
meanings = map (λ s. meaning_of s.event) shapes
