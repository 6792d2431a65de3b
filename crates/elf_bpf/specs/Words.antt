-- The words for the kinds of faults of an object. They are this project's own.
use Rattle.std.specs.Prelude.{ℕ, List, codes}
use Rattle.elf_bpf.specs.declared.fault.ElfKind.{ElfKind}
use Rattle.elf_bpf.specs.declared.fault.ElfKind.TheVariants.{Short, Magic, Class, Order, TypeField, Machine, Table, Strings, NoSection, Section, Relocated}

abbrev pub kind_word : ElfKind → List ℕ
kind_word Short = codes "short"
kind_word Magic = codes "magic"
kind_word Class = codes "class"
kind_word Order = codes "order"
kind_word TypeField = codes "type"
kind_word Machine = codes "machine"
kind_word Table = codes "table"
kind_word Strings = codes "strings"
kind_word NoSection = codes "nosection"
kind_word Section = codes "section"
kind_word Relocated = codes "relocated"
