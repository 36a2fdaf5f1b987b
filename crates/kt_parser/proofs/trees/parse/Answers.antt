use Rattle.std.proofs.Common.{◌≡◌, ◌∙◌, List, refl, sym, ap, subst, inl}
use Rattle.kt_base.specs.declared.refusals.FrontErr.TheVariants as front_err
use Rattle.kt_base.specs.declared.refusals.Refusal.{Refusal}
use Rattle.kt_tree.specs.Declarations.{DeclarationTree}
use Rattle.kt_grammar.specs.Declarations.{IsFileOf}
use Rattle.kt_parser.specs.Trees.{IsSyntaxRefused}
use Rattle.kt_parser.proofs.Files.{is_file, file_is, one_refusal, refused_is_no_file, refused_here, refused_reads, parsed_reads, told}
use Rattle.kt_parser.proofs.trees.parse.Goals as goal

pub returns-in-Ok-clause-parsed : goal.returns-in-Ok-clause-parsed
returns-in-Ok-clause-parsed c = subst (λ (z : List DeclarationTree). IsFileOf c.args.tokens.now z) (sym c.file.ensures) (is_file _ _ _ c.requires (parsed_reads _ _ _ _ c.new-cursor.ensures c.in-Ok.ensures))

pub returns-in-Ok-clause-only : goal.returns-in-Ok-clause-only
returns-in-Ok-clause-only c file s = c.file.ensures ∙ file_is _ _ file _ (parsed_reads _ _ _ _ c.new-cursor.ensures c.in-Ok.ensures) s

pub returns-in-Ok-clause-refuses : goal.returns-in-Ok-clause-refuses
returns-in-Ok-clause-refuses c r s = s.refused.whole _ (is_file _ _ _ c.requires (parsed_reads _ _ _ _ c.new-cursor.ensures c.in-Ok.ensures))

pub returns-in-Err-Refused-clause-only : goal.returns-in-Err-Refused-clause-only
returns-in-Err-Refused-clause-only c file s = absurd (refused_is_no_file _ _ file (refused_reads _ _ _ c.new-cursor.ensures (c.in-Err-Refused.ensures {u = tt} (λ z. absurd cc))) s)

pub returns-in-Err-Refused-clause-refused : goal.returns-in-Err-Refused-clause-refused
returns-in-Err-Refused-clause-refused c r e = subst (λ (z : Refusal). IsSyntaxRefused c.args.tokens.now z) (told _ _ e) (refused_here _ _ _ _ (refused_reads _ _ _ c.new-cursor.ensures (c.in-Err-Refused.ensures {u = tt} (λ z. absurd cc))) c.far.ensures c.place_before.ensures)

pub returns-in-Err-Refused-clause-refuses : goal.returns-in-Err-Refused-clause-refuses
returns-in-Err-Refused-clause-refuses c r s =
    inl (ap (λ (z : Refusal). front_err.Refused z) (one_refusal _ _ r (refused_here _ _ _ _ (refused_reads _ _ _ c.new-cursor.ensures (c.in-Err-Refused.ensures {u = tt} (λ z. absurd cc))) c.far.ensures c.place_before.ensures) s))
