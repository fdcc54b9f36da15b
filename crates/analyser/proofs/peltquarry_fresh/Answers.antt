-- The words of the fresh docket are lent.
use mathlib.Core.Path.{sym, ap}
use lib.ListN.{length}
use Rattle.refusal.specs.Outcome.Outcome.{given}
use Rattle.refusal.specs.Lent.{fitting}
use Rattle.docket.specs.Terms.{docket_of}
use Rattle.analyser.specs.DocketWords.{docket_words}
use Rattle.analyser.proofs.CallLaws.{same-fitting, written-code}
use Rattle.analyser.proofs.OfferLaws.{lent-laws}
use Rattle.analyser.proofs.peltquarry_fresh.Goals as goal

pub returns : goal.returns
returns c =
    let old = c.args.docket.now in
    let docket = docket_of c.fresh.result in
    let said = same-fitting old (ap given (sym c.words_of-answer.ensures.words)) (c.lend.ensures.answer, c.lend.ensures.lent) in
    record {
      fresh = record {
        docket = docket;
        fresh = c.fresh.ensures.empty;
        whole = c.words_of-answer.ensures.whole;
        returned = written-code (fitting (length old) (given (docket_words docket))) c.of_written.ensures said.0;
        lent = said.1;
      };
      laws = lent-laws;
    }
