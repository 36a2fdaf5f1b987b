-- Worked rows: derivations of small files, and refusals at their places.
use Rattle.std.proofs.Common.{ℕ, zero, suc, ◌≤◌, arith, List, [], ◌∷◌, Some, ◌≡◌, refl, ap, ◌∙◌, sym, subst, Bool, true, false, inl, inr}
use Rattle.kt_types_builtins.specs.Types.{type_of_name, types}
use Rattle.kt_types_builtins.specs.Functions.{function_of_name, functions}
use Rattle.kt_types_order.specs.Below.{same, null_below}
use Rattle.kt_typed.specs.Bodies.{ExpressionForm, FunForm}
use Rattle.kt_check_rules.specs.Bodies.{AreBodies}
use Rattle.kt_check_rules.specs.Units.{bodies, context_of}
use Rattle.kt_check_rules.specs.Place.{cut, HasNoTyping, IsRefused, at_statement}
use Rattle.kt_check_rules.specs.Samples.{smart_cast, long_for_int, without_result, at, header, print_one}
use Rattle.std.specs.Prelude.{IsTrue, not, ◌||◌, ◌&&◌, codes}
use Rattle.kt_types_tree.specs.declared.types.TypeConstructor.TheVariants as c
use Rattle.kt_types_tree.specs.Types.{TypeForm, forms_end}
use Rattle.kt_types_tree.specs.Hierarchy.{HierarchyForm}
use Rattle.kt_types_order.specs.Below.{IsBelow}
use Rattle.kt_types_order.proofs.Rules.{arguments_stay}
use Rattle.kt_check_rules.specs.Choices.{IsFirst}
use Rattle.kt_check_rules.specs.Kinds.{int_type, long_type, is_unit, type_of}
use Rattle.kt_check_rules.specs.Literals.{long_literal}
use Rattle.kt_check_rules.specs.Completion.{statement_completes}
use Rattle.kt_check_rules.proofs.OnceRules as rules

-- facts through `if`, and `?:`
pub smart_cast_typed : (fs : List FunForm) × AreBodies (bodies smart_cast) fs
unfolding type_of_name types function_of_name functions
smart_cast_typed = (
  _ ∷ [],
  (
    _,
    [],
    (
      record {
        statements = _;
        end = _;
        are = record {
          y = _;
          more = _;
          between = _;
          goes_on = _;
          first = record {
            typed = record {
              t = _;
              u = _;
              end = _;
              free = refl;
              means = refl;
              value = record { typings = _; reads = (refl, refl); takes = inl (null_below, refl) };
              whole = refl;
              after = refl;
            };
            ends = refl;
          };
          rest = record {
            y = _;
            more = _;
            between = _;
            goes_on = _;
            first = record {
              typed = record {
                u = _;
                typed = record {
                  typings = _;
                  reads = record {
                    u = _;
                    x = _;
                    y = _;
                    types = _;
                    p = _;
                    whole = _;
                    tested = _;
                    between = _;
                    end = _;
                    condition = record {
                      typings = _;
                      reads = record {
                        lefts = _;
                        rights = _;
                        between = _;
                        end = _;
                        chosen = _;
                        left = (refl, refl);
                        right = (
                          refl,
                          refl,
                        );
                        first = inl (inl (inr (refl, refl)), refl);
                        gives = (refl, refl);
                      };
                      takes = inl (same, refl);
                    };
                    first = record {
                      statements = _;
                      value = _;
                      end = _;
                      are = record {
                        line = _;
                        lines = _;
                        between = _;
                        first = record {
                          u = _;
                          typed = record {
                            typings = _;
                            reads = record {
                              chosen = _;
                              values = _;
                              end = _;
                              is = refl;
                              are = record {
                                one = _;
                                others = _;
                                between = _;
                                first = record {
                                  typings = _;
                                  reads = record {
                                    lefts = _;
                                    rights = _;
                                    between = _;
                                    end = _;
                                    left = (refl, refl);
                                    right = (refl, refl);
                                    gives = (refl, refl);
                                  };
                                  takes = refl;
                                };
                                rest = (refl, refl);
                                whole = refl;
                              };
                              gives = (refl, refl);
                            };
                            takes = refl;
                          };
                          whole = refl;
                        };
                        rest = record { meets = tt; none = refl; no_value = refl; same = refl };
                        whole = refl;
                      };
                      whole = refl;
                      left = refl;
                    };
                    second = (refl, refl, refl, refl);
                    has = refl;
                    gives = (
                      refl,
                      refl,
                    );
                  };
                  takes = refl;
                };
                whole = refl;
              };
              ends = refl;
            };
            rest = record {
              y = _;
              more = _;
              between = _;
              goes_on = _;
              first = record {
                typed = record {
                  u = _;
                  typed = record {
                    typings = _;
                    reads = record {
                      chosen = _;
                      values = _;
                      end = _;
                      is = refl;
                      are = record {
                        one = _;
                        others = _;
                        between = _;
                        first = record {
                          typings = _;
                          reads = record {
                            u = _;
                            v = _;
                            whole = _;
                            between = _;
                            end = _;
                            left = record { typings = _; reads = (refl, refl); takes = refl };
                            right = record {
                              typings = _;
                              reads = (
                                refl,
                                refl,
                              );
                              takes = refl;
                            };
                            has = inl ((same, (same, tt)), refl);
                            gives = (refl, refl);
                          };
                          takes = refl;
                        };
                        rest = (refl, refl);
                        whole = refl;
                      };
                      gives = (refl, refl);
                    };
                    takes = refl;
                  };
                  whole = refl;
                };
                ends = refl;
              };
              rest = record {
                y = _;
                more = _;
                between = _;
                goes_on = _;
                first = record {
                  allowed = refl;
                  whole = refl;
                  same = refl;
                  ends = refl;
                };
                rest = (refl, refl);
                whole = refl;
              };
              whole = refl;
            };
            whole = refl;
          };
          whole = refl;
        };
        whole = refl;
      },
      (refl, refl),
    ),
  ),
)

-- `val y: Int = 1` alone
pub int_typed : (fs : List FunForm) × AreBodies (cut 1 (bodies long_for_int)) fs
unfolding type_of_name types function_of_name functions
int_typed = (
  _ ∷ [],
  (
    _,
    [],
    (
      record {
        statements = _;
        end = _;
        are = record {
          y = _;
          more = _;
          between = _;
          goes_on = _;
          first = record {
            typed = record {
              t = _;
              u = _;
              end = _;
              free = refl;
              means = refl;
              value = record { typings = _; reads = (refl, refl); takes = inl (same, refl) };
              whole = refl;
              after = refl;
            };
            ends = refl;
          };
          rest = (refl, refl);
          whole = refl;
        };
        whole = refl;
      },
      (refl, refl),
    ),
  ),
)

-- `Long` is no subtype of `Int`
long_for : (h : HierarchyForm) → IsBelow h long_type int_type → ⊥
long_for h p =
    let r = arguments_stay h false false c.Long c.Int forms_end forms_end (λ n e. cc) p in
    let e = r.0 in
    cc

no_long : (h : HierarchyForm) (t : TypeForm) (us : List ExpressionForm) (u : ExpressionForm) →
    Some int_type ≡ Some t → us ≡ long_literal 1 ∷ [] → IsFirst (λ v. IsBelow h (type_of v) t) us u → ⊥
no_long h t us u e f p =
    let d : int_type ≡ t = cc in
    alone (subst (λ t. IsFirst (λ v. IsBelow h (type_of v) t) (long_literal 1 ∷ []) u) (sym d)
    (subst (λ us. IsFirst (λ v. IsBelow h (type_of v) t) us u) f p))
  where
    alone : IsFirst (λ v. IsBelow h (type_of v) int_type) (long_literal 1 ∷ []) u → ⊥
    alone (inl q) = long_for h q.0
    alone (inr q) = q.1

long_has_no_typing : HasNoTyping (cut 2 (bodies long_for_int))
unfolding type_of_name types function_of_name functions
long_has_no_typing fs (f, rest, (b, more)) =
    let x = b.are.rest.first.typed in
    no_long _ x.t x.value.typings x.u x.means x.value.reads.0 x.value.takes

before_long : (m : ℕ) → m ≤ 1 → HasNoTyping (cut m (bodies long_for_int)) → ⊥
before_long zero p fails = fails (_ ∷ []) (
  _,
  [],
  (
    record {
      statements = _;
      end = _;
      are = (refl, refl);
      whole = refl;
    },
    (refl, refl),
  ),
)
before_long (suc zero) p fails = fails int_typed.0 int_typed.1
before_long (suc (suc m)) p fails = omega (arith, p)

-- `val x: Int = 1L` is refused at its statement
pub long_refused : IsRefused long_for_int (at 3 5)
long_refused = at_statement (record {
  n = 1;
  d = _;
  first = record { stands = refl; fails = long_has_no_typing; before = before_long };
  place = refl;
})

-- `println(1)` alone
pub print_typed : (fs : List FunForm) × AreBodies (cut 1 (bodies without_result)) fs
unfolding function_of_name functions
print_typed = (
  _ ∷ _ ∷ [],
  (
    _,
    _ ∷ [],
    (
      record {
        statements = _;
        end = _;
        are = record {
          y = _;
          more = _;
          between = _;
          goes_on = _;
          first = record {
            typed = record {
              u = _;
              typed = record {
                typings = _;
                reads = record {
                  chosen = _;
                  values = _;
                  end = _;
                  is = refl;
                  are = record {
                    one = _;
                    others = _;
                    between = _;
                    first = record { typings = _; reads = (refl, refl); takes = refl };
                    rest = (refl, refl);
                    whole = refl;
                  };
                  gives = (refl, refl);
                };
                takes = refl;
              };
              whole = refl;
            };
            ends = refl;
          };
          rest = (refl, refl);
          whole = refl;
        };
        whole = refl;
      },
      (
        (_, [], (record { statements = _; end = _; are = (refl, refl); whole = refl }, (refl, refl))),
        refl,
      ),
    ),
  ),
)

falls_out : (g : Bool) → g ≡ true → IsTrue (not g || is_unit int_type) → ⊥
falls_out true e p = cc
falls_out false e p = cc

brace_has_no_typing : HasNoTyping (cut 2 (bodies without_result))
unfolding print_typed function_of_name functions
brace_has_no_typing fs (f, rest, (b, more)) =
    let known = print_typed.1.2.0.are.first.typed in
    let x = b.are.first in
    let e = (rules.statement (context_of without_result (header (codes "f") int_type))
    print_one).all _ _ _ _ _ _ refl x.typed known in
    falls_out b.are.goes_on (x.ends ∙ ap (λ y. true && statement_completes without_result.headers y) e.0)
    b.are.rest.first.allowed

before_brace : (m : ℕ) → m ≤ 1 → HasNoTyping (cut m (bodies without_result)) → ⊥
before_brace zero p fails =
    fails (_ ∷ _ ∷ []) (
      _,
      _ ∷ [],
      (
        record { statements = _; end = _; are = (refl, refl); whole = refl },
        (
          (
            _,
            [],
            (record { statements = _; end = _; are = (refl, refl); whole = refl }, (refl, refl)),
          ),
          refl,
        ),
      ),
    )
before_brace (suc zero) p fails = fails print_typed.0 print_typed.1
before_brace (suc (suc m)) p fails = omega (arith, p)

-- a body that ends without its result is refused at its brace
pub brace_refused : IsRefused without_result (at 3 1)
brace_refused = at_statement (record {
  n = 1;
  d = _;
  first = record { stands = refl; fails = brace_has_no_typing; before = before_brace };
  place = refl;
})
