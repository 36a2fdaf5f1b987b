-- What is answered of classes.
use Rattle.std.proofs.Common.{◌≡◌, List, sym, subst}
use Rattle.jvm_class_types.specs.declared.classes.ClassFile.{ClassFile}
use Rattle.class_linked.specs.declared.classes.Linked.{Linked}
use Rattle.class_link.specs.Linking.{AreLinked, WhyNot}
use Rattle.class_link.specs.declared.errors.LinkErr.{LinkErr}
use Rattle.class_link.specs.declared.errors.LinkErr.TheVariants as link_error
use Rattle.class_answers.specs.declared.answers.Answer.{Answer}
use Rattle.class_answers.specs.declared.answers.Answer.TheVariants as answer
use Rattle.verify_classes.specs.Judging.{AnswersLink, AnswersVerify, Judges}

pub of_linked : (classes : List ClassFile) (linked : Linked) (a : Answer) → AreLinked classes linked → AnswersVerify linked a
    → Judges classes a
of_linked classes linked answer.Fine are is = (linked, are, is)
of_linked classes linked (answer.Rejected class method at) are is = (linked, are, is)
of_linked classes linked answer.NoMemory are is = tt
of_linked classes linked (answer.Altered file) are is = absurd is
of_linked classes linked answer.Usage are is = absurd is
of_linked classes linked (answer.CannotRead file) are is = absurd is
of_linked classes linked (answer.BadBytes file at) are is = absurd is
of_linked classes linked (answer.Missing class) are is = absurd is
of_linked classes linked (answer.Cyclic class) are is = absurd is
of_linked classes linked answer.NoMain are is = absurd is

pub of_unlinked : (classes : List ClassFile) (error : LinkErr) (a : Answer) → WhyNot classes error → AnswersLink error a
    → Judges classes a
of_unlinked classes (link_error.Missing name) a why is = subst (λ (b : Answer). Judges classes b) (sym is) why
of_unlinked classes (link_error.Cycle name) a why is = subst (λ (b : Answer). Judges classes b) (sym is) why
of_unlinked classes link_error.NoMain a why is = subst (λ (b : Answer). Judges classes b) (sym is) why
of_unlinked classes link_error.NoMemory a why is = subst (λ (b : Answer). Judges classes b) (sym is) tt
