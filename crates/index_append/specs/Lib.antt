-- A kit entered behind all that the table holds: what is known between two of them.
pub mod Inner
