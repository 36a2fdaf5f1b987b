pub mod NamesOfTables
