-- Further forms have a typing somewhere: statements of one body, one after the other.
use Rattle.std.proofs.Common.{List, [], ◌∷◌, Some, None, refl, true, false, inl, inr}
use Rattle.std.specs.Prelude.{codes}
use Rattle.kt_tree.specs.declared.bodies.AssignmentOperator.TheVariants as by
use Rattle.kt_tree.specs.declared.bodies.BinaryOperator.TheVariants as o
use Rattle.kt_tree.specs.declared.bodies.Literal.TheVariants as written
use Rattle.kt_tree.specs.declared.bodies.PrefixOperator.TheVariants as before
use Rattle.kt_tree.specs.declared.bodies.StepOperator.TheVariants as step_by
use Rattle.kt_tree.specs.Types as type
use Rattle.kt_tree.specs.Bodies.{literal, template, name, parenthesized, prefix, binary, cast, not_null, member, call, if_else, break, expressions_end, expression_then, some_expression, name_part, parts_end, part_then, braces, single, no_body, block, local, assign, step, while, do_while, evaluate, statements_end, statement_then}
use Rattle.kt_types_order.specs.Below.{same, null_below}
use Rattle.kt_types_builtins.specs.Types.{type_of_name, types}
use Rattle.kt_types_builtins.specs.Functions.{function_of_name, functions}
use Rattle.kt_types_builtins.specs.Members.{member_of, members, same_receiver}
use Rattle.kt_typed.specs.Bodies.{StatementForm}
use Rattle.kt_check_rules.specs.Kinds.{unit_type}
use Rattle.kt_check_rules.specs.States.{Context, State}
use Rattle.kt_check_rules.specs.Bodies.{Direct, statement, AreDirects, empty_state}
use Rattle.kt_check_rules.specs.Samples.{at, number, headers_with}

abbrev K : Context
K = record {
  headers = headers_with [];
  classes = λ x. None;
  type_parameters = [];
  result = unit_type;
  is_suspend = false;
}

-- they have a typing
abbrev AreTyped : List Direct → Type 0
AreTyped ds = (ys : List StatementForm) × (end : State) × AreDirects K ds empty_state true ys end

-- `val s: String? = null`, `val n: Int? = s?.length`, `val t: String? = s as? String`, `println(s!!.substring(0, 1))`
abbrev safe_tree : List Direct
safe_tree = statement (local (at 0 0) false (codes "s") (Some (type.nullable (type.named (codes "String")
    type.types_end))) (some_expression (literal (at 0 0) written.Null))) ∷ statement (local (at 0 0)
    false (codes "n") (Some (type.nullable (type.named (codes "Int") type.types_end)))
    (some_expression (member (at 0 0) (name (at 0 0) (codes "s")) true (codes "length"))))
    ∷ statement (local (at 0 0) false (codes "t") (Some (type.nullable (type.named (codes "String")
    type.types_end))) (some_expression (cast (at 0 0) (name (at 0 0) (codes "s"))
    true (type.named (codes "String") type.types_end)))) ∷ statement (evaluate (at 0 0) (call (at 0 0)
    (name (at 0 0) (codes "println")) (at 0 0) [] (expression_then (call (at 0 0) (member (at 0 0) (not_null (at 0 0)
    (name (at 0 0) (codes "s"))) false (codes "substring")) (at 0 0) [] (expression_then (number 0 false)
    (expression_then (number 1 false) expressions_end))) expressions_end))) ∷ []

safe : AreTyped safe_tree
unfolding type_of_name types function_of_name functions member_of members same_receiver
safe = (
  _,
  _,
  record {
    y = _;
    more = _;
    between = _;
    goes_on = _;
    first = record {
      typed = record {
        t = _;
        u = _;
        end = _;
        free = refl;
        means = refl;
        value = record {
          typings = _;
          reads = (refl, refl);
          takes = inl (null_below, refl);
        };
        whole = refl;
        after = refl;
      };
      ends = refl;
    };
    rest = record {
      y = _;
      more = _;
      between = _;
      goes_on = _;
      first = record {
        typed = record {
          t = _;
          u = _;
          end = _;
          free = refl;
          means = refl;
          value = record {
            typings = _;
            reads = record {
              receivers = _;
              end = _;
              of_what = (refl, refl);
              gives = (refl, refl);
            };
            takes = inl (same, refl);
          };
          whole = refl;
          after = refl;
        };
        ends = refl;
      };
      rest = record {
        y = _;
        more = _;
        between = _;
        goes_on = _;
        first = record {
          typed = record {
            t = _;
            u = _;
            end = _;
            free = refl;
            means = refl;
            value = record {
              typings = _;
              reads = record {
                u = _;
                wanted = _;
                end = _;
                operand = record { typings = _; reads = (refl, refl); takes = refl };
                means = refl;
                allowed = refl;
                gives = (refl, refl);
              };
              takes = inl (same, refl);
            };
            whole = refl;
            after = refl;
          };
          ends = refl;
        };
        rest = record {
          y = _;
          more = _;
          between = _;
          goes_on = _;
          first = record {
            typed = record {
              u = _;
              typed = record {
                typings = _;
                reads = record {
                  chosen = _;
                  values = _;
                  end = _;
                  is = refl;
                  are = record {
                    one = _;
                    others = _;
                    between = _;
                    first = record {
                      typings = _;
                      reads = record {
                        receivers = _;
                        chosen = _;
                        values = _;
                        between = _;
                        end = _;
                        of_what = record {
                          u = _;
                          end = _;
                          operand = record { typings = _; reads = (refl, refl); takes = refl };
                          gives = (refl, refl);
                        };
                        is = refl;
                        are = record {
                          one = _;
                          others = _;
                          between = _;
                          first = record {
                            typings = _;
                            reads = (
                              refl,
                              refl,
                            );
                            takes = inl (same, refl);
                          };
                          rest = record {
                            one = _;
                            others = _;
                            between = _;
                            first = record { typings = _; reads = (refl, refl); takes = inl (same, refl) };
                            rest = (refl, refl);
                            whole = refl;
                          };
                          whole = refl;
                        };
                        gives = (refl, refl);
                      };
                      takes = refl;
                    };
                    rest = (refl, refl);
                    whole = refl;
                  };
                  gives = (refl, refl);
                };
                takes = refl;
              };
              whole = refl;
            };
            ends = refl;
          };
          rest = (refl, refl);
          whole = refl;
        };
        whole = refl;
      };
      whole = refl;
    };
    whole = refl;
  },
)

-- `val x: Int? = null`, `while (true) { if (x != null) break }`, `println(x + 1)`
abbrev breaks_tree : List Direct
breaks_tree = statement (local (at 0 0) false (codes "x") (Some (type.nullable (type.named (codes "Int")
    type.types_end))) (some_expression (literal (at 0 0) written.Null))) ∷ statement (while (at 0 0)
    (literal (at 0 0) written.True) (braces (block (statement_then (evaluate (at 0 0) (if_else (at 0 0)
    (binary (at 0 0) o.NotEqual (name (at 0 0) (codes "x")) (literal (at 0 0) written.Null))
    (single (evaluate (at 0 0) (break (at 0 0)))) no_body)) statements_end) (at 0 0))))
    ∷ statement (evaluate (at 0 0) (call (at 0 0) (name (at 0 0) (codes "println")) (at 0 0)
    [] (expression_then (binary (at 0 0) o.Plus (name (at 0 0) (codes "x")) (number 1 false)) expressions_end)))
    ∷ []

breaks : AreTyped breaks_tree
unfolding type_of_name types function_of_name functions member_of members same_receiver
breaks = (
  _,
  _,
  record {
    y = _;
    more = _;
    between = _;
    goes_on = _;
    first = record {
      typed = record {
        t = _;
        u = _;
        end = _;
        free = refl;
        means = refl;
        value = record {
          typings = _;
          reads = (refl, refl);
          takes = inl (null_below, refl);
        };
        whole = refl;
        after = refl;
      };
      ends = refl;
    };
    rest = record {
      y = _;
      more = _;
      between = _;
      goes_on = _;
      first = record {
        typed = record {
          u = _;
          b = _;
          tested = _;
          end = _;
          condition = record { typings = _; reads = (refl, refl); takes = inl (same, refl) };
          done = record {
            statements = _;
            value = _;
            end = _;
            are = record {
              line = _;
              lines = _;
              between = _;
              first = record {
                u = _;
                typed = record {
                  typings = _;
                  reads = record {
                    u = _;
                    x = _;
                    y = _;
                    types = _;
                    p = _;
                    whole = _;
                    tested = _;
                    between = _;
                    end = _;
                    condition = record {
                      typings = _;
                      reads = record {
                        lefts = _;
                        rights = _;
                        between = _;
                        end = _;
                        chosen = _;
                        left = (refl, refl);
                        right = (refl, refl);
                        first = inl (inl (inr (refl, refl)), refl);
                        gives = (refl, refl);
                      };
                      takes = inl (same, refl);
                    };
                    first = record {
                      statements = _;
                      value = _;
                      end = _;
                      are = record {
                        line = _;
                        lines = _;
                        between = _;
                        first = record {
                          u = _;
                          typed = record { typings = _; reads = (refl, refl); takes = refl };
                          whole = refl;
                        };
                        rest = record { meets = tt; none = refl; no_value = refl; same = refl };
                        whole = refl;
                      };
                      whole = refl;
                      left = refl;
                    };
                    second = (refl, refl, refl, refl);
                    has = refl;
                    gives = (refl, refl);
                  };
                  takes = refl;
                };
                whole = refl;
              };
              rest = record { meets = tt; none = refl; no_value = refl; same = refl };
              whole = refl;
            };
            whole = refl;
            left = refl;
          };
          whole = refl;
          after = refl;
        };
        ends = refl;
      };
      rest = record {
        y = _;
        more = _;
        between = _;
        goes_on = _;
        first = record {
          typed = record {
            u = _;
            typed = record {
              typings = _;
              reads = record {
                chosen = _;
                values = _;
                end = _;
                is = refl;
                are = record {
                  one = _;
                  others = _;
                  between = _;
                  first = record {
                    typings = _;
                    reads = record {
                      lefts = _;
                      rights = _;
                      between = _;
                      end = _;
                      left = (
                        refl,
                        refl,
                      );
                      right = (refl, refl);
                      gives = (refl, refl);
                    };
                    takes = refl;
                  };
                  rest = (refl, refl);
                  whole = refl;
                };
                gives = (refl, refl);
              };
              takes = refl;
            };
            whole = refl;
          };
          ends = refl;
        };
        rest = (refl, refl);
        whole = refl;
      };
      whole = refl;
    };
    whole = refl;
  },
)

-- `var n = 3`, `do { n--`, `val more = n > 0 } while (more)`
abbrev do_sees_tree : List Direct
do_sees_tree = statement (local (at 0 0) true (codes "n") None (some_expression (number 3 false)))
    ∷ statement (do_while (at 0 0) (block (statement_then (step (at 0 0) (name (at 0 0) (codes "n"))
    step_by.Decrement) (statement_then (local (at 0 0) false (codes "more")
    None (some_expression (binary (at 0 0) o.Greater (name (at 0 0) (codes "n")) (number 0 false))))
    statements_end)) (at 0 0)) (name (at 0 0) (codes "more"))) ∷ []

do_sees : AreTyped do_sees_tree
unfolding type_of_name types function_of_name functions member_of members same_receiver
do_sees = (
  _,
  _,
  record {
    y = _;
    more = _;
    between = _;
    goes_on = _;
    first = record {
      typed = record {
        u = _;
        end = _;
        free = refl;
        value = record { typings = _; reads = (refl, refl); takes = refl };
        whole = refl;
        after = refl;
      };
      ends = refl;
    };
    rest = record {
      y = _;
      more = _;
      between = _;
      goes_on = _;
      first = record {
        typed = record {
          ss = _;
          v = _;
          u = _;
          end = _;
          tested = _;
          done = record {
            line = _;
            lines = _;
            between = _;
            first = record {
              n = _;
              l = _;
              width = _;
              is = record {
                number = refl;
                known = refl;
              };
              old = refl;
              number = refl;
              allowed = refl;
              whole = refl;
              after = refl;
            };
            rest = record {
              line = _;
              lines = _;
              between = _;
              first = record {
                u = _;
                end = _;
                free = refl;
                value = record {
                  typings = _;
                  reads = record {
                    lefts = _;
                    rights = _;
                    between = _;
                    end = _;
                    left = (
                      refl,
                      refl,
                    );
                    right = (refl, refl);
                    gives = (refl, refl);
                  };
                  takes = refl;
                };
                whole = refl;
                after = refl;
              };
              rest = record { meets = tt; none = refl; no_value = refl; same = refl };
              whole = refl;
            };
            whole = refl;
          };
          condition = record { typings = _; reads = (refl, refl); takes = inl (same, refl) };
          whole = refl;
          after = refl;
        };
        ends = refl;
      };
      rest = (refl, refl);
      whole = refl;
    };
    whole = refl;
  },
)

-- `var l: Long = -1`, `l += 2`, `val b = !(l < 0 && true)`, `println("$l")`
abbrev numbers_tree : List Direct
numbers_tree = statement (local (at 0 0) true (codes "l") (Some (type.named (codes "Long") type.types_end))
    (some_expression (prefix (at 0 0) before.Negate (number 1 false)))) ∷ statement (assign (at 0 0)
    (name (at 0 0) (codes "l")) by.Add (number 2 false)) ∷ statement (local (at 0 0) false (codes "b")
    None (some_expression (prefix (at 0 0) before.Not (parenthesized (at 0 0) (binary (at 0 0)
    o.Conjunction (binary (at 0 0) o.Less (name (at 0 0) (codes "l")) (number 0 false)) (literal (at 0 0)
    written.True)))))) ∷ statement (evaluate (at 0 0) (call (at 0 0) (name (at 0 0) (codes "println")) (at 0 0)
    [] (expression_then (template (at 0 0) (part_then (name_part (codes "l")) parts_end)) expressions_end))) ∷ []

numbers : AreTyped numbers_tree
unfolding type_of_name types function_of_name functions member_of members same_receiver
numbers = (
  _,
  _,
  record {
    y = _;
    more = _;
    between = _;
    goes_on = _;
    first = record {
      typed = record {
        t = _;
        u = _;
        end = _;
        free = refl;
        means = refl;
        value = record {
          typings = _;
          reads = record {
            operands = _;
            end = _;
            operand = (refl, refl);
            gives = (refl, refl);
          };
          takes = inl (same, refl);
        };
        whole = refl;
        after = refl;
      };
      ends = refl;
    };
    rest = record {
      y = _;
      more = _;
      between = _;
      goes_on = _;
      first = record {
        typed = record {
          n = _;
          l = _;
          f = _;
          u = _;
          end = _;
          is = record {
            number = refl;
            known = refl;
          };
          old = refl;
          new = record {
            typings = _;
            chosen = _;
            reads = (refl, refl);
            first = refl;
            meets = same;
            value = refl;
            operator = refl;
          };
          allowed = refl;
          whole = refl;
          after = refl;
        };
        ends = refl;
      };
      rest = record {
        y = _;
        more = _;
        between = _;
        goes_on = _;
        first = record {
          typed = record {
            u = _;
            end = _;
            free = refl;
            value = record {
              typings = _;
              reads = record {
                u = _;
                end = _;
                operand = record {
                  typings = _;
                  reads = record {
                    u = _;
                    v = _;
                    between = _;
                    end = _;
                    left = record {
                      typings = _;
                      reads = record {
                        lefts = _;
                        rights = _;
                        between = _;
                        end = _;
                        left = (refl, refl);
                        right = (refl, refl);
                        gives = (refl, refl);
                      };
                      takes = inl (same, refl);
                    };
                    right = record { typings = _; reads = (refl, refl); takes = inl (same, refl) };
                    gives = (refl, refl);
                  };
                  takes = inl (same, refl);
                };
                gives = (refl, refl);
              };
              takes = refl;
            };
            whole = refl;
            after = refl;
          };
          ends = refl;
        };
        rest = record {
          y = _;
          more = _;
          between = _;
          goes_on = _;
          first = record {
            typed = record {
              u = _;
              typed = record {
                typings = _;
                reads = record {
                  chosen = _;
                  values = _;
                  end = _;
                  is = refl;
                  are = record {
                    one = _;
                    others = _;
                    between = _;
                    first = record {
                      typings = _;
                      reads = record {
                        all = _;
                        end = _;
                        are = record {
                          one = _;
                          others = _;
                          between = _;
                          first = record {
                            value = _;
                            chosen = record { typings = _; reads = (refl, refl); takes = refl };
                            whole = refl;
                          };
                          rest = (refl, refl);
                          whole = refl;
                        };
                        gives = (refl, refl);
                      };
                      takes = refl;
                    };
                    rest = (
                      refl,
                      refl,
                    );
                    whole = refl;
                  };
                  gives = (refl, refl);
                };
                takes = refl;
              };
              whole = refl;
            };
            ends = refl;
          };
          rest = (
            refl,
            refl,
          );
          whole = refl;
        };
        whole = refl;
      };
      whole = refl;
    };
    whole = refl;
  },
)
