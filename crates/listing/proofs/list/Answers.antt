-- The text is made apart, and lent from its start.
use native.Mathlib.Omega.{arith}
use Rattle.listing.specs.Listing.{list_text}
use Rattle.listing.proofs.DecimalLaws.{decimal-truth}
use Rattle.batch.proofs.InputLaws.{byte-limit}
use Rattle.listing.proofs.TextLaws.{text-made}
use Rattle.listing.proofs.list.Goals as goal

pub returns : goal.returns
returns c =
    let text = list_text c.args.bytes.now in
    let whole = text-made text _ c.text_of-length.ensures.answer c.text_of-length.ensures.lent in
    record {
      answer = grind (arith, whole, c.lend.ensures.answer);
      lent = grind (arith, whole, c.lend.ensures.lent);
      fits = c.text_of-length.ensures.fits;
      decimals = decimal-truth;
      limit = byte-limit;
    }
