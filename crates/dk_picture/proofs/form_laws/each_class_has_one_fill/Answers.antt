use Rattle.dk_picture.proofs.Styles.{bars_filled, dark_apart, holds_filled, light_apart, marks_filled}
use Rattle.dk_picture.proofs.form_laws.each_class_has_one_fill.Goals as goal

pub returns-clause-bars : goal.returns-clause-bars
returns-clause-bars c = bars_filled

pub returns-clause-holds : goal.returns-clause-holds
returns-clause-holds c = holds_filled

pub returns-clause-marks : goal.returns-clause-marks
returns-clause-marks c = marks_filled

pub returns-clause-on_light : goal.returns-clause-on_light
returns-clause-on_light c = light_apart

pub returns-clause-on_dark : goal.returns-clause-on_dark
returns-clause-on_dark c = dark_apart
