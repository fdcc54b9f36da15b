-- Refused by the length of the bytes, or the text of their words; the array has room for every text.
use mathlib.Core.Path.{sym, ◌∙◌}
use native.Mathlib.Nat.{le_trans}
use borrow.Author.Rules.{rules}
use Rattle.refusal.specs.declared.Refusal.TheVariants as refusal
use Rattle.refusal.specs.Numbers.{number_of}
use Rattle.batch.proofs.InputLaws.{input-within}
use Rattle.listing.proofs.LengthLaws.{refused-fits}
use Rattle.listing.proofs.TextLaws.{text-refused-first, text-judged, text-written}
use Rattle.listing.proofs.text_of.Goals as goal

pub put_refusal-requires : goal.put_refusal-requires
put_refusal-requires c = le_trans (refused-fits (number_of refusal.BatchLength)) (search rules)

pub returns-then-not-is_input : goal.returns-then-not-is_input
returns-then-not-is_input c =
    let a = c.args in
    let e = text-refused-first a.bytes.now (sym c.is_input.ensures ∙ c.if-not-is_input.true) in
    let said = text-written a.bytes.now a.text.now e c.put_refusal.ensures.value c.put_refusal.ensures.text_after in
    record { answer = said.0; lent = said.1.0; within = said.1.1.0; fits = said.1.1.1 }

pub put_text-requires : goal.put_text-requires
put_text-requires c =
    let bytes = c.args.bytes.now in
    record { room = search rules; few_bytes = input-within bytes (sym c.is_input.ensures ∙ c.if-not-is_input.false) }

pub returns : goal.returns
returns c =
    let a = c.args in
    let e = text-judged a.bytes.now (sym c.is_input.ensures ∙ c.if-not-is_input.false) in
    let said = text-written a.bytes.now a.text.now e c.put_text.ensures.value c.put_text.ensures.text_after in
    record { answer = said.0; lent = said.1.0; within = said.1.1.0; fits = said.1.1.1 }
