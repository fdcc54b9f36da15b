-- Document 01, 'The docket': an offer in its terms, where the docket after it is told or why there is none: 'A refusal returns its number, nothing else changes'.
use Rattle.std.specs.Prelude.{Result, Ok, Err}
use Rattle.refusal.specs.declared.Refusal.{Refusal}
use Rattle.refusal.specs.Outcome.Outcome.{given}
use Rattle.refusal.specs.Numbers.{number_of}
use Rattle.docket.specs.declared.Docket.{Docket}
use Rattle.docket.specs.Terms.{docket_of, DocketTerms, OfferedTerms}
use Rattle.docket.specs.Terms.Reply.{taken}
use Rattle.docket.specs.Offers.{refused_offer}

abbrev pub offered_by : DocketTerms → Result Docket Refusal → OfferedTerms
offered_by d (Ok after) = record { docket = docket_of after; answer = given taken }
offered_by d (Err why) = refused_offer d (number_of why)
