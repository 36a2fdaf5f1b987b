-- The numbers of the class file format that have names (JVMS SE 8 chapter 4).
use Rattle.std.specs.Prelude.{ℕ}

abbrev pub magic : ℕ
magic = 0xCAFEBABE

abbrev pub minor_version : ℕ
minor_version = 0

abbrev pub major_version : ℕ
major_version = 52

-- ---- tags of the constant pool (§4.4)

abbrev pub constant_utf8 : ℕ
constant_utf8 = 1

abbrev pub constant_integer : ℕ
constant_integer = 3

abbrev pub constant_long : ℕ
constant_long = 5

abbrev pub constant_class : ℕ
constant_class = 7

abbrev pub constant_string : ℕ
constant_string = 8

abbrev pub constant_fieldref : ℕ
constant_fieldref = 9

abbrev pub constant_methodref : ℕ
constant_methodref = 10

abbrev pub constant_interface_methodref : ℕ
constant_interface_methodref = 11

abbrev pub constant_name_and_type : ℕ
constant_name_and_type = 12

-- ---- access flags (§4.1, §4.5, §4.6)

abbrev pub acc_public : ℕ
acc_public = 0x0001

abbrev pub acc_static : ℕ
acc_static = 0x0008

abbrev pub acc_final : ℕ
acc_final = 0x0010

abbrev pub acc_super : ℕ
acc_super = 0x0020

abbrev pub acc_interface : ℕ
acc_interface = 0x0200

abbrev pub acc_abstract : ℕ
acc_abstract = 0x0400

-- ---- types in frames (§4.7.4)

abbrev pub item_top : ℕ
item_top = 0

abbrev pub item_integer : ℕ
item_integer = 1

abbrev pub item_long : ℕ
item_long = 4

abbrev pub item_null : ℕ
item_null = 5

abbrev pub item_uninitialized_this : ℕ
item_uninitialized_this = 6

abbrev pub item_object : ℕ
item_object = 7

abbrev pub item_uninitialized : ℕ
item_uninitialized = 8
