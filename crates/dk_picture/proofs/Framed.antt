-- The parts of a picture, one after another.
use Rattle.dk_picture.proofs.Names.{ℕ, ◌≡◌, ◌∙◌, ◌≤◌, ◌++◌, [], List, length, ap, sym, subst, append_assoc, Result, Ok, Err, IfOk, Entry, LedgerLine, Heading, Journal, groups, Hold, holds_in, Frame, Span, makings_in, IsShown, framed_text, parts_text, picture_text, promised_svg, Promised, Scene, frame_of, scene_of}

pub three_parts : (a b d t0 t1 t2 t3 : List ℕ) → t0 ≡ [] → t1 ≡ t0 ++ a → t2 ≡ t1 ++ b → t3 ≡ t2 ++ d → t3 ≡ a ++ (b ++ d)
three_parts a b d t0 t1 t2 t3 none is1 is2 is3 =
    is3 ∙ ap (λ t. t ++ d) (is2 ∙ ap (λ t. t ++ b) (is1 ∙ ap (λ t. t ++ a) none)) ∙ append_assoc a b d

pub same_frame : (h : Heading) (p : Promised) (s : Span) (n : ℕ) (gs : List LedgerLine) (ds : List Hold) (ms : List LedgerLine) (c : Scene) (f : Frame) (es : List Entry) → ds ≡ holds_in s.from s.to es
    → ms ≡ makings_in s.to es → c ≡ scene_of h p gs ds ms → f ≡ frame_of h c → parts_text h f s n c ≡ picture_text h p s n gs (holds_in s.from s.to es) (makings_in s.to es)
same_frame h p s n gs ds ms c f es is_holds is_makings is_scene is_frame =
    ap (λ (k : Frame). parts_text h k s n c) is_frame ∙ ap (framed_text h s n) is_scene ∙ ap (λ xs. picture_text h p s n gs xs ms) is_holds
    ∙ ap (picture_text h p s n gs (holds_in s.from s.to es)) is_makings

-- of each x that meets P, a text under another name
pub if_each : {A E J : Type 0} {P : J → Type 0} (f : A → List ℕ) (r : Result A E) (x : List ℕ) (y : J → List ℕ) → ((j : J) → P j → x ≡ y j) → IfOk r (λ s. f s ≡ x)
    → IfOk r (λ s. (j : J) → P j → f s ≡ y j)
if_each f (Ok s) x y same text = λ j is. text ∙ same j is
if_each f (Err e) x y same text = tt

-- the picture of the groups that were read is that of the ledger
pub shown_text : (j : Journal) (h : Heading) (p : Promised) (bytes : List ℕ) (ticks from to lo hi : ℕ) (gs : List LedgerLine) (t : List ℕ) → IsShown j h bytes ticks
    → gs ≡ groups lo hi j.entries → lo ≡ from → hi ≡ to → t ≡ picture_text h p (record { from = from; to = to }) ticks gs (holds_in from to j.entries) (makings_in to j.entries) → length gs ≤ 4000
    → (t ≡ promised_svg p from to j.heading j.entries) × (length (groups from to j.entries) ≤ 4000)
shown_text j h p bytes ticks from to lo hi gs t shown read is_from is_to text few =
    let s : Span = record { from = from; to = to } in
    let ds = holds_in from to j.entries in
    let ms = makings_in to j.entries in
    let all : gs ≡ groups from to j.entries = read ∙ ap (λ n. groups n hi j.entries) is_from ∙ ap (λ n. groups from n j.entries) is_to in (
      text ∙ ap (λ (k : Heading). picture_text k p s ticks gs ds ms) (sym shown.heading) ∙ ap (λ n. picture_text j.heading p s n gs ds ms) (sym shown.count)
          ∙ ap (λ xs. picture_text j.heading p s (length j.entries) xs ds ms) all,
      subst (λ (xs : List LedgerLine). length xs ≤ 4000) all few,
    )
