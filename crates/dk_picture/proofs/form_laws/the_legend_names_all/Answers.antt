use Rattle.dk_picture.proofs.Legends.{classes_named, marks_named, words_begin}
use Rattle.dk_picture.proofs.form_laws.the_legend_names_all.Goals as goal

pub returns-clause-bars : goal.returns-clause-bars
returns-clause-bars c = classes_named

pub returns-clause-marks : goal.returns-clause-marks
returns-clause-marks c = marks_named

pub returns-clause-words : goal.returns-clause-words
returns-clause-words c = words_begin
