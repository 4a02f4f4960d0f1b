-- `plan::own::head_of` meets its contract. Assumes nothing.
use Rattle.plan.proofs.Owns.{constant-low, constant-byte, constant_head, small_head, signed_head, unsigned_head, float_head, text_head_lem, holder-head, binary-head, char-head, reference_head, declaration_head, whole_head, damaged_head, key_head, unknown_head}
use borrow.Author.Rules.{rules}
use Rattle.plan.proofs.own.head_of.Goals as goal

pub overflow_sub-w : goal.overflow_sub-w
overflow_sub-w c = search (constant-low, rules)

pub overflow_cast-w : goal.overflow_cast-w
overflow_cast-w c = search (constant-byte, rules)

pub returns-in-Constant : goal.returns-in-Constant
returns-in-Constant c = search (constant_head, rules)

pub returns-in-Small : goal.returns-in-Small
returns-in-Small c = search (small_head, rules)

pub returns-in-Signed : goal.returns-in-Signed
returns-in-Signed c = search (signed_head, rules) fits 20000

pub returns-in-Unsigned : goal.returns-in-Unsigned
returns-in-Unsigned c = search (unsigned_head, rules)

pub returns-in-Float : goal.returns-in-Float
returns-in-Float c = search (float_head, rules)

pub returns-in-Text : goal.returns-in-Text
returns-in-Text c = search (text_head_lem, rules)

pub returns-in-Holds : goal.returns-in-Holds
returns-in-Holds c = search (holder-head, rules)

pub returns-in-Binary : goal.returns-in-Binary
returns-in-Binary c = search (binary-head, rules)

pub returns-in-Char : goal.returns-in-Char
returns-in-Char c = search (char-head, rules)

pub returns-in-Reference : goal.returns-in-Reference
returns-in-Reference c = search (reference_head, rules)

pub returns-in-Declaration : goal.returns-in-Declaration
returns-in-Declaration c = search (declaration_head, rules)

pub returns-in-Whole : goal.returns-in-Whole
returns-in-Whole c = search (whole_head, rules)

pub returns-in-Damaged : goal.returns-in-Damaged
returns-in-Damaged c = search (damaged_head, rules)

pub returns-in-Key : goal.returns-in-Key
returns-in-Key c = search (key_head, rules)

pub returns-in-Unknown : goal.returns-in-Unknown
returns-in-Unknown c = search (unknown_head, rules)
