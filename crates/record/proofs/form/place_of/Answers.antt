-- `record::form::place_of` meets its contract: with a form that is known, a small document and few events no sum is large.
use Rattle.record.proofs.Parts.{small_product}
use borrow.Author.Rules.{rules}
use Rattle.record.proofs.form.place_of.Goals as goal

pub overflow_mul-result : goal.overflow_mul-result
overflow_mul-result c = let h = small_product _ _ _ c.requires.0.slim c.requires.2 in search rules

pub overflow_add-result-3 : goal.overflow_add-result-3
overflow_add-result-3 c = let h = small_product _ _ _ c.requires.0.slim c.requires.2 in search rules
