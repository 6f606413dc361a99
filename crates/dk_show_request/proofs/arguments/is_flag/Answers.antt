use Rattle.dk_show_request.proofs.Names.{◌≡◌, ◌∙◌, ap, map, string_bytes, sym, list_any, bytes_eq, dashed, Form}
use Rattle.dk_show_request.proofs.Finding.{list_any-map}
use Rattle.dk_show_request.proofs.arguments.is_flag.Goals as goal

pub returns : goal.returns
returns c =
    let word = string_bytes c.args.word.now in
    let flags : map (λ m. m.now) c.form.inside.flags.now ≡ c.args.form.now.flags = ap (λ (f : Form). f.flags) c.form.view_is in
    c.is_among.ensures ∙ sym (list_any-map (λ m. m.now) (λ m. bytes_eq word (dashed m)) c.form.inside.flags.now)
    ∙ ap (list_any (λ m. bytes_eq word (dashed m))) flags
