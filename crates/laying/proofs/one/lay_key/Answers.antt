-- `laying::one::lay_key` meets its contract: a law of Lays for each way out. Assumes nothing.
use borrow.Author.Rules.{rules}
use Rattle.laying.proofs.Lays.{key_done, key_fits_lem, key_ok, key_place, key_size}
use Rattle.laying.proofs.one.lay_key.Goals as goal

pub unwrap-c-requires : goal.unwrap-c-requires
unwrap-c-requires c = search key_ok

pub key-requires : goal.key-requires
key-requires c = (search rules, search key_place, search key_size)

pub overflow_add-result : goal.overflow_add-result
overflow_add-result c = search key_fits_lem

pub returns : goal.returns
returns c = search key_done
