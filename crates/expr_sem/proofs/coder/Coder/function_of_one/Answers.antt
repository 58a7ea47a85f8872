use Rattle.std.proofs.Common.{ap, sym, refl}
use Rattle.m2_base.specs.declared.builtins.Builtin.{Builtin}
use Rattle.expr_sem.specs.Codings.{coded_in}
use Rattle.block_code.specs.StandardFunctions.{function_of_one}
use Rattle.expr_sem.proofs.Highs.{no_function}
use Rattle.expr_sem.proofs.Operating.{described}
use Rattle.expr_sem.proofs.Selecting.{error_alone}
use Rattle.expr_sem.proofs.coder.Coder.function_of_one.Goals as goal

pub returns-in-Min-clause-codes : goal.returns-in-Min-clause-codes
returns-in-Min-clause-codes g c = described c.of_type_coded.result c.of_type_coded.ensures.codes (λ k. ap (λ (f : Builtin). function_of_one k f c.args.at (coded_in c.args.self.now.fragments.now.nodes.items c.args.x)) (sym c.in-Min.is))

pub returns-in-Max-clause-codes : goal.returns-in-Max-clause-codes
returns-in-Max-clause-codes g c = described c.of_type_coded-in-Max.result c.of_type_coded-in-Max.ensures.codes (λ k. ap (λ (f : Builtin). function_of_one k f c.args.at (coded_in c.args.self.now.fragments.now.nodes.items c.args.x)) (sym c.in-Max.is))

pub returns-in_default-clause-codes : goal.returns-in_default-clause-codes
returns-in_default-clause-codes g c =
    error_alone _ _ _ _ c.in_error.result _ c.in_error.ensures.told c.in_error.ensures.there
    (λ k. no_function k c.args.f c.args.at (coded_in c.args.self.now.fragments.now.nodes.items c.args.x) c.in_default.not-Abs c.in_default.not-Cap c.in_default.not-Chr c.in_default.not-Odd c.in_default.not-Ord c.in_default.not-Min c.in_default.not-Max c.in_default.not-Size c.in_default.not-High)

pub returns-in-Abs-clause-codes : goal.returns-in-Abs-clause-codes
returns-in-Abs-clause-codes g c = described c.on_value.result c.on_value.ensures.codes (λ k. ap (λ (f : Builtin). function_of_one k f c.args.at (coded_in c.args.self.now.fragments.now.nodes.items c.args.x)) (sym c.in-Abs.is))

pub returns-in-Abs-clause-keeps : goal.returns-in-Abs-clause-keeps
returns-in-Abs-clause-keeps g c = c.on_value.ensures.keeps

pub returns-in-Cap-clause-codes : goal.returns-in-Cap-clause-codes
returns-in-Cap-clause-codes g c = described c.on_value-in-Cap.result c.on_value-in-Cap.ensures.codes (λ k. ap (λ (f : Builtin). function_of_one k f c.args.at (coded_in c.args.self.now.fragments.now.nodes.items c.args.x)) (sym c.in-Cap.is))

pub returns-in-Cap-clause-keeps : goal.returns-in-Cap-clause-keeps
returns-in-Cap-clause-keeps g c = c.on_value-in-Cap.ensures.keeps

pub returns-in-Chr-clause-codes : goal.returns-in-Chr-clause-codes
returns-in-Chr-clause-codes g c = described c.on_value-in-Chr.result c.on_value-in-Chr.ensures.codes (λ k. ap (λ (f : Builtin). function_of_one k f c.args.at (coded_in c.args.self.now.fragments.now.nodes.items c.args.x)) (sym c.in-Chr.is))

pub returns-in-Chr-clause-keeps : goal.returns-in-Chr-clause-keeps
returns-in-Chr-clause-keeps g c = c.on_value-in-Chr.ensures.keeps

pub returns-in-Odd-clause-codes : goal.returns-in-Odd-clause-codes
returns-in-Odd-clause-codes g c = described c.on_value-in-Odd.result c.on_value-in-Odd.ensures.codes (λ k. ap (λ (f : Builtin). function_of_one k f c.args.at (coded_in c.args.self.now.fragments.now.nodes.items c.args.x)) (sym c.in-Odd.is))

pub returns-in-Odd-clause-keeps : goal.returns-in-Odd-clause-keeps
returns-in-Odd-clause-keeps g c = c.on_value-in-Odd.ensures.keeps

pub returns-in-Ord-clause-codes : goal.returns-in-Ord-clause-codes
returns-in-Ord-clause-codes g c = described c.on_value-in-Ord.result c.on_value-in-Ord.ensures.codes (λ k. ap (λ (f : Builtin). function_of_one k f c.args.at (coded_in c.args.self.now.fragments.now.nodes.items c.args.x)) (sym c.in-Ord.is))

pub returns-in-Ord-clause-keeps : goal.returns-in-Ord-clause-keeps
returns-in-Ord-clause-keeps g c = c.on_value-in-Ord.ensures.keeps

pub returns-in-Size-clause-codes : goal.returns-in-Size-clause-codes
returns-in-Size-clause-codes g c = described c.size_coded.result c.size_coded.ensures (λ k. ap (λ (f : Builtin). function_of_one k f c.args.at (coded_in c.args.self.now.fragments.now.nodes.items c.args.x)) (sym c.in-Size.is))

pub returns-in-Size-clause-keeps : goal.returns-in-Size-clause-keeps
returns-in-Size-clause-keeps g c = record { site = refl; withs = refl; scopes = refl; fragments = refl; notes = refl }

pub returns-in-High-clause-codes : goal.returns-in-High-clause-codes
returns-in-High-clause-codes g c = described c.high_coded.result c.high_coded.ensures (λ k. ap (λ (f : Builtin). function_of_one k f c.args.at (coded_in c.args.self.now.fragments.now.nodes.items c.args.x)) (sym c.in-High.is))

pub returns-in-High-clause-keeps : goal.returns-in-High-clause-keeps
returns-in-High-clause-keeps g c = record { site = refl; withs = refl; scopes = refl; fragments = refl; notes = refl }

pub on_value-requires-clause-suits : goal.on_value-requires-clause-suits
on_value-requires-clause-suits g c = c.requires.suits

pub on_value-requires-clause-x : goal.on_value-requires-clause-x
on_value-requires-clause-x g c = c.requires.x

pub on_value-requires-in-Cap-clause-suits : goal.on_value-requires-in-Cap-clause-suits
on_value-requires-in-Cap-clause-suits g c = c.requires.suits

pub on_value-requires-in-Cap-clause-x : goal.on_value-requires-in-Cap-clause-x
on_value-requires-in-Cap-clause-x g c = c.requires.x

pub on_value-requires-in-Chr-clause-suits : goal.on_value-requires-in-Chr-clause-suits
on_value-requires-in-Chr-clause-suits g c = c.requires.suits

pub on_value-requires-in-Chr-clause-x : goal.on_value-requires-in-Chr-clause-x
on_value-requires-in-Chr-clause-x g c = c.requires.x

pub on_value-requires-in-Odd-clause-suits : goal.on_value-requires-in-Odd-clause-suits
on_value-requires-in-Odd-clause-suits g c = c.requires.suits

pub on_value-requires-in-Odd-clause-x : goal.on_value-requires-in-Odd-clause-x
on_value-requires-in-Odd-clause-x g c = c.requires.x

pub on_value-requires-in-Ord-clause-suits : goal.on_value-requires-in-Ord-clause-suits
on_value-requires-in-Ord-clause-suits g c = c.requires.suits

pub on_value-requires-in-Ord-clause-x : goal.on_value-requires-in-Ord-clause-x
on_value-requires-in-Ord-clause-x g c = c.requires.x

pub size_coded-requires-clause-suits : goal.size_coded-requires-clause-suits
size_coded-requires-clause-suits g c = c.requires.suits

pub size_coded-requires-clause-x : goal.size_coded-requires-clause-x
size_coded-requires-clause-x g c = c.requires.x

pub high_coded-requires-clause-suits : goal.high_coded-requires-clause-suits
high_coded-requires-clause-suits g c = c.requires.suits

pub high_coded-requires-clause-x : goal.high_coded-requires-clause-x
high_coded-requires-clause-x g c = c.requires.x

pub of_type_coded-requires-clause-suits : goal.of_type_coded-requires-clause-suits
of_type_coded-requires-clause-suits g c = c.requires.suits

pub of_type_coded-requires-clause-x : goal.of_type_coded-requires-clause-x
of_type_coded-requires-clause-x g c = c.requires.x

pub of_type_coded-requires-in-Max-clause-suits : goal.of_type_coded-requires-in-Max-clause-suits
of_type_coded-requires-in-Max-clause-suits g c = c.requires.suits

pub of_type_coded-requires-in-Max-clause-x : goal.of_type_coded-requires-in-Max-clause-x
of_type_coded-requires-in-Max-clause-x g c = c.requires.x

pub returns-in-Min-clause-keeps : goal.returns-in-Min-clause-keeps
returns-in-Min-clause-keeps g c = c.of_type_coded.ensures.keeps

pub returns-in-Max-clause-keeps : goal.returns-in-Max-clause-keeps
returns-in-Max-clause-keeps g c = c.of_type_coded-in-Max.ensures.keeps
