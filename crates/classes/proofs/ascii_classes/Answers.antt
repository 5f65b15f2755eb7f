-- `classes::ascii_classes` meets its contract: the table's rule is one test at each of 128 characters, which antt computes.
use mathlib.Core.Path.{refl}
use Rattle.classes.specs.Class.{class_of, standard_class, ascii_class, amended, whitespace, punctuation}
use Rattle.classes.proofs.Ascii.{right, table_of}
use Rattle.classes.proofs.ascii_classes.Goals as goal

pub returns : goal.returns
unfolding right class_of standard_class ascii_class amended whitespace punctuation
returns c = table_of _ refl tt
