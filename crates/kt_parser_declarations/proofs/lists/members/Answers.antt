use Rattle.std.proofs.Common.{rules, true, refl}
use denote.Ref.{Bor}
use Rattle.kt_tree.specs.declared.tokens.Token.{Token}
use Rattle.kt_parser_steps.proofs.Choosing.{attempt_reads, attempt_if_passes}
use Rattle.kt_parser_declarations.specs.Rests.{open_brace}
use Rattle.kt_parser_declarations.proofs.Items.{none_read}
use Rattle.kt_parser_declarations.proofs.lists.members.Goals as goal

abbrev shown : Bor Token → Token
shown token = token.now

pub returns-in-Some : goal.returns-in-Some
returns-in-Some g c p h = attempt_reads _ shown open_brace _ _ _ _ _ _ c.in-Some.field-0 (c.in-Some.ensures open_brace (λ old new r e. search rules)) (c.items_until.ensures p h)

pub returns-in-None : goal.returns-in-None
returns-in-None g c p h = attempt_if_passes true true shown open_brace _ _ _ _ _ refl (c.in-None.ensures open_brace (λ old new r e. search rules)) (none_read _ _ c.new.ensures _)
